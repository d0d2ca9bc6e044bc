-- What an arriving arc leaves where it is accepted, as data of five cases: one law over the choice of pass. Every invariant of a pass goes by it. Assumes nothing.
use Rattle.std.specs.Prelude.{◌≡◌, ◌⊎◌, ℕ, suc, ◌+◌, Bool, not, ◌&&◌, cond, length, set}
use Rattle.std.proofs.Math.Path.{refl, subst}
use Rattle.std.proofs.Common.{sym, ap, ◌∙◌, inl, inr}
use Rattle.std.proofs.Math.Bool.{true, false}
use Rattle.std.proofs.Math.Option.{Option, none, some}
use mathlib.Core.List.Memᴰ.{head as here}
use mathlib.Core.List.Memᴰ.{tail as there}
use mathlib.Core.List.{List, [], ◌∷◌}
use Rattle.std.specs.Float.Ieee.{Float}
use Rattle.lists.specs.Tests.{case}
use Rattle.lists.specs.Lists.{◌∈◌}
use Rattle.real32.specs.Small.{tame}
use Rattle.model.specs.Basics.{◌≺◌, ◌≼◌, ◌⊕◌, ◌⊖◌, over, Outcome, ◌>>=◌, check}
use Rattle.model.specs.Graph.{Arc, has_eps}
use Rattle.model.specs.Path.{Path, Token, is_link, memℕ}
use Rattle.model.specs.Arrive.{Pass, emitting, nonemitting, takes, total, lower, Here, Work, Meets, past_cutoff, vacant, better, not_better, against, meets, step_on, arriving, joined, keeps, keep, path_in_hand, check_winner, Change, arc_cut, token_stays, token_wins, token_joins, or_else, joins_or_stays, fills, beats, loses, settle, passed, put, push, push_winner, push_joined, finish, place_of, arrive, arrive_all}
use Rattle.model.specs.Accepted.{Ok}
use Rattle.model.proofs.Accepted.{then, after, branches, weaken, checked_so}
use Rattle.model.specs.Came.{Still, WithLoser, Passing, Queued, QueuedIn, KeptAs}

-- ---- the five cases

-- the state goes on the queue, in the nonemitting pass
abbrev pub Pushed : Pass → ℕ → (before after : List ℕ) → Type 0
Pushed (emitting ls off ad) s q r = r ≡ q
Pushed nonemitting s q r = r ≡ s ∷ q

-- what is on the queue stays
abbrev pub More : (before after : List ℕ) → Type 0
More q r = (x : ℕ) → x ∈ q → x ∈ r

-- cut off; into an empty state; better; not better and dropped; not better and joined
pub data Came (h : Here) (p : Pass) (t : Token) (a : Arc) (w v : Work) : Type 0 where
  came_cut : (w.cutoff ≼ total h.graph p t a) ≡ true → v ≡ w → Came h p t a w v
  came_vacant : Passing h p t a w v → place_of w a ≡ none → tame (t.graph ⊕ a.weight) ≡ true → v.table ≡ set w.table a.target (some (arriving h p t a w.fresh (suc w.seq) false))
      → v.seq ≡ suc w.seq → Pushed p a.target w.queue v.queue → Came h p t a w v
  came_better : Passing h p t a w v → (held : Token) → place_of w a ≡ some held → (total h.graph p t a ≺ held.cost) ≡ true → tame (t.graph ⊕ a.weight) ≡ true → (u : Token)
      → WithLoser h (suc w.fresh) (arriving h p t a w.fresh held.seq false) held u → v.table ≡ set w.table a.target (some u) → v.seq ≡ w.seq
      → Pushed p a.target w.queue v.queue → Came h p t a w v
  came_dropped : Passing h p t a w v → (held : Token) → place_of w a ≡ some held → (total h.graph p t a ≺ held.cost) ≡ false → v.table ≡ w.table → v.seq ≡ w.seq → v.queue ≡ w.queue → Came h p t a w v
  came_joined : Passing h p t a w v → (held : Token) → place_of w a ≡ some held → (total h.graph p t a ≺ held.cost) ≡ false
      → v.table ≡ set w.table a.target (some (joined h (suc w.fresh) held (arriving h p t a w.fresh 0 true))) → v.seq ≡ w.seq → More w.queue v.queue → Came h p t a w v

same_queue : (Q : List ℕ → List ℕ → Type 0) (u : Work) → Q u.queue u.queue → Queued Q u u
same_queue Q u q = record { table = refl; seq = refl; cutoff = refl; fresh = refl; queue = q }

pub push_queued : (h : Here) (s : ℕ) (re : List ℕ) (u : Work) → Ok (Queued (λ q r. r ≡ s ∷ q) u) (push h s re u)
unfolding push
push_queued h s re u =
    branches (Queued (λ q r. r ≡ s ∷ q) u) (over (suc (length u.queue)) h.limits.queue) _ _ (λ e. tt) (λ e. record { table = refl; seq = refl; cutoff = refl; fresh = refl; queue = refl })

winner_queued : (h : Here) (p : Pass) (s : ℕ) (u : Work) → Ok (QueuedIn p (Pushed p s) u) (push_winner h p s u)
winner_queued h (emitting ls off ad) s u = (same_queue (λ q r. r ≡ q) u refl, (refl, refl))
winner_queued h nonemitting s u =
    weaken (Queued (λ q r. r ≡ s ∷ q) u) (QueuedIn nonemitting (Pushed nonemitting s) u) (push h s u.requeued u) (λ v g. (g, tt)) (push_queued h s u.requeued u)

joined_queued : (h : Here) (p : Pass) (s : ℕ) (u : Work) → Ok (QueuedIn p More u) (push_joined h p s u)
joined_queued h (emitting ls off ad) s u = (same_queue More u (λ x m. m), (refl, refl))
joined_queued h nonemitting s u =
    branches (QueuedIn nonemitting More u) (has_eps h.graph s && not (memℕ s u.requeued)) _ _
    (λ e. weaken (Queued (λ q r. r ≡ s ∷ q) u) (QueuedIn nonemitting More u) (push h s (s ∷ u.requeued) u)
    (λ v g. (record { table = g.table; seq = g.seq; cutoff = g.cutoff; fresh = g.fresh; queue = λ x m. subst (λ (l : List ℕ). x ∈ l) (sym g.queue) (there m) }, tt)) (push_queued h s (s ∷ u.requeued) u))
    (λ e. (same_queue More u (λ x m. m), tt))

keep_kept : (h : Here) (hand : List Path) (n : ℕ) (gap : Float) (won lost : Token) → Ok (KeptAs h n won lost) (keep h hand n gap won lost)
unfolding keep
keep_kept h hand n gap won lost =
    branches (KeptAs h n won lost) (keeps h.margin gap won lost) _ _ (λ e. branches (KeptAs h n won lost) (h.limits.full hand) _ _ (λ f. tt) (λ f. refl)) (λ e. tt)

with_loser : (h : Here) (k : ℕ) (won lost : Token) (j : Option Token) → KeptAs h k won lost j → WithLoser h k won lost (or_else won j)
with_loser h k won lost none q = inl refl
with_loser h k won lost (some j) q = inr q

stays_or_joins : (h : Here) (k : ℕ) (won lost : Token) (j : Option Token) → KeptAs h k won lost j → (joins_or_stays j ≡ token_stays) ⊎ (joins_or_stays j ≡ token_joins (joined h k won lost))
stays_or_joins h k won lost none q = inl refl
stays_or_joins h k won lost (some j) q = inr (ap token_joins q)

module _ (h : Here) (p : Pass) (t : Token) (a : Arc) (w : Work) where
  abbrev pub Sum : Type 0
  Sum = tame (t.graph ⊕ a.weight) ≡ true

  abbrev pub Small : Type 0
  Small = tame (total h.graph p t a) ≡ true

  winner_checked : Ok (λ u. Sum) (check_winner h w p t a)
  unfolding check_winner
  winner_checked = both (tame (t.graph ⊕ a.weight)) (not (is_link (step_on h p t a 0 false) && h.limits.full (path_in_hand h w t.path)))
    where
      both : (b c : Bool) → Ok (λ u. b ≡ true) (check 12 b >>= λ u. check 13 c)
      both true true = refl
      both true false = tt
      both false c = tt

  abbrev pub SettledBy : Meets → Change → Type 0
  SettledBy past_cutoff c = c ≡ arc_cut
  SettledBy vacant c = Small × Sum × (c ≡ token_wins (arriving h p t a w.fresh (suc w.seq) false) (suc w.seq))
  SettledBy (better gap held) c =
      Small × Sum × ((u : Token) × WithLoser h (suc w.fresh) (arriving h p t a w.fresh held.seq false) held u × (c ≡ token_wins u w.seq))
  SettledBy (not_better gap held) c =
      Small × ((c ≡ token_stays) ⊎ (c ≡ token_joins (joined h (suc w.fresh) held (arriving h p t a w.fresh 0 true))))

  pub settle_settled : (m : Meets) → Ok (SettledBy m) (settle h p t a w m)
  unfolding settle fills beats loses
  settle_settled past_cutoff = refl
  settle_settled vacant =
      then (λ u. Small) (SettledBy vacant) (check 12 (tame (total h.graph p t a))) _ (checked_so 12 (tame (total h.graph p t a))) λ u s.
      then (λ u. Sum) (SettledBy vacant) (check_winner h w p t a) _ winner_checked λ v g. (s, g, refl)
  settle_settled (better gap held) =
      let new = arriving h p t a w.fresh held.seq false in
      then (λ u. Small) (SettledBy (better gap held)) (check 12 (tame (total h.graph p t a))) _ (checked_so 12 (tame (total h.graph p t a))) λ u s.
      then (λ u. Sum) (SettledBy (better gap held)) (check_winner h w p t a) _ winner_checked λ v g.
      then (KeptAs h (suc w.fresh) new held) (SettledBy (better gap held)) (keep h (path_in_hand h w new.path) (suc w.fresh) gap new held) _ (keep_kept h _ (suc w.fresh) gap new held) λ j q.
      (s, g, (or_else new j, with_loser h (suc w.fresh) new held j q, refl))
  settle_settled (not_better gap held) =
      let new = arriving h p t a w.fresh 0 true in
      then (λ u. Small) (SettledBy (not_better gap held)) (check 12 (tame (total h.graph p t a))) _ (checked_so 12 (tame (total h.graph p t a))) λ u s.
      then (KeptAs h (suc w.fresh) held new) (SettledBy (not_better gap held)) (keep h (path_in_hand h w new.path) (suc w.fresh) gap held new) _ (keep_kept h _ (suc w.fresh) gap held new) λ j q.
      (s, stays_or_joins h (suc w.fresh) held new j q)

  -- ---- and what `finish` makes of it

  abbrev Result : Work → Type 0
  Result v = Came h p t a w v

  abbrev fin : Change → Outcome Work
  fin c = finish h p a.target (total h.graph p t a) w c

  passing : (v : Work) → (w.cutoff ≼ total h.graph p t a) ≡ false → Small → v.cutoff ≡ lower p (total h.graph p t a) w.cutoff → v.fresh ≡ w.fresh + 2 → Still p w v → Passing h p t a w v
  passing v e s c f q = record { under = e; small = s; cutoff = c; fresh = f; still = q }

  still_passed : (u v : Work) → u.queue ≡ w.queue → u.requeued ≡ w.requeued → Still p u v → Still p w v
  still_passed u v e f = go p
    where
      go : (p : Pass) → Still p u v → Still p w v
      go (emitting ls off ad) q = (q.0 ∙ e, q.1 ∙ f)
      go nonemitting q = tt

  still_same : (v : Work) → v.queue ≡ w.queue → v.requeued ≡ w.requeued → Still p w v
  still_same v e f = go p
    where
      go : (p : Pass) → Still p w v
      go (emitting ls off ad) = (e, f)
      go nonemitting = tt

  -- a winner, into an empty state or over a token
  wins_came : (under : (w.cutoff ≼ total h.graph p t a) ≡ false) → Small → (u : Token) (q : ℕ)
      → ((v : Work) → Passing h p t a w v → v.table ≡ set w.table a.target (some u) → v.seq ≡ q → Pushed p a.target w.queue v.queue → Result v) → Ok Result (fin (token_wins u q))
  unfolding finish put passed
  wins_came under s u q k =
      let x = put a.target u q (passed p (total h.graph p t a) w) in
      weaken (QueuedIn p (Pushed p a.target) x) Result (push_winner h p a.target x)
      (λ v r. k v (passing v under s r.0.cutoff r.0.fresh (still_passed x v refl refl r.1)) r.0.table r.0.seq r.0.queue) (winner_queued h p a.target x)

  joins_came : (under : (w.cutoff ≼ total h.graph p t a) ≡ false) → Small → (u : Token)
      → ((v : Work) → Passing h p t a w v → v.table ≡ set w.table a.target (some u) → v.seq ≡ w.seq → More w.queue v.queue → Result v) → Ok Result (fin (token_joins u))
  unfolding finish put passed
  joins_came under s u k =
      let x = put a.target u w.seq (passed p (total h.graph p t a) w) in
      weaken (QueuedIn p More x) Result (push_joined h p a.target x)
      (λ v r. k v (passing v under s r.0.cutoff r.0.fresh (still_passed x v refl refl r.1)) r.0.table r.0.seq r.0.queue) (joined_queued h p a.target x)

  stays_came : (under : (w.cutoff ≼ total h.graph p t a) ≡ false) → Small → (held : Token) → place_of w a ≡ some held → (total h.graph p t a ≺ held.cost) ≡ false → Ok Result (fin token_stays)
  unfolding finish passed
  stays_came under s held e c = came_dropped (passing _ under s refl refl (still_same _ refl refl)) held e c refl refl refl

  abbrev by : Meets → Type 0
  by m = Ok Result (settle h p t a w m >>= fin)

  by_change : (m : Meets) → ((c : Change) → SettledBy m c → Ok Result (fin c)) → by m
  by_change m k = then (SettledBy m) Result (settle h p t a w m) fin (settle_settled m) k

  cut_by : (w.cutoff ≼ total h.graph p t a) ≡ true → by past_cutoff
  unfolding finish
  cut_by e = by_change past_cutoff λ c q. subst (λ (x : Change). Ok Result (fin x)) (sym q) (came_cut e refl)

  vacant_by : (w.cutoff ≼ total h.graph p t a) ≡ false → place_of w a ≡ none → by vacant
  vacant_by e o =
      by_change vacant λ c q.
      subst (λ (x : Change). Ok Result (fin x)) (sym q.2) (wins_came e q.0 (arriving h p t a w.fresh (suc w.seq) false) (suc w.seq) λ v k. came_vacant k o q.1)

  better_by : (w.cutoff ≼ total h.graph p t a) ≡ false → (gap : Float) (held : Token) → place_of w a ≡ some held → (total h.graph p t a ≺ held.cost) ≡ true → by (better gap held)
  better_by e gap held o l =
      by_change (better gap held) λ c q.
      let u = q.2.0 in
      subst (λ (x : Change). Ok Result (fin x)) (sym q.2.2) (wins_came e q.0 u w.seq λ v k. came_better k held o l q.1 u q.2.1)

  not_better-by : (w.cutoff ≼ total h.graph p t a) ≡ false → (gap : Float) (held : Token) → place_of w a ≡ some held → (total h.graph p t a ≺ held.cost) ≡ false → by (not_better gap held)
  not_better-by e gap held o l =
      by_change (not_better gap held) λ c q.
      case q.1 (λ r. subst (λ (x : Change). Ok Result (fin x)) (sym r) (stays_came e q.0 held o l))
      (λ r. subst (λ (x : Change). Ok Result (fin x)) (sym r) (joins_came e q.0 (joined h (suc w.fresh) held (arriving h p t a w.fresh 0 true)) λ v k. came_joined k held o l))

  pub arrive_came : Ok (Came h p t a w) (arrive h p t a w)
  unfolding arrive meets
  arrive_came = go (w.cutoff ≼ tot) refl (place_of w a) refl
    where
      tot : Float
      tot = total h.graph p t a

      beside : (held : Token) → (w.cutoff ≼ tot) ≡ false → place_of w a ≡ some held → (b : Bool) → (tot ≺ held.cost) ≡ b → by (cond b (better (held.cost ⊖ tot) held) (not_better (tot ⊖ held.cost) held))
      beside held e o true l = better_by e (held.cost ⊖ tot) held o l
      beside held e o false l = not_better-by e (tot ⊖ held.cost) held o l

      go : (b : Bool) → (w.cutoff ≼ tot) ≡ b → (o : Option Token) → place_of w a ≡ o → by (elim b as (λ c. Meets) [ true ↦ past_cutoff | false ↦ against tot o ])
      go true e o q = cut_by e
      go false e none q = vacant_by e q
      go false e (some held) q = beside held e q (tot ≺ held.cost) refl

-- ---- an invariant J of the work that every arrival keeps

module _ (J : Work → Type 0) (h : Here) (p : Pass) where
  pub arrive_all-keeps : (t : Token) (as' : List Arc) → ((a : Arc) → a ∈ as' → takes p a ≡ true → (w v : Work) → J w → Came h p t a w v → J v) → (w : Work) → J w → Ok J (arrive_all h p t as' w)
  unfolding arrive_all
  arrive_all-keeps t [] k w j = j
  arrive_all-keeps t (a ∷ as') k w j =
      let rest = arrive_all-keeps t as' (λ b m. k b (there m)) in
      branches J (takes p a) _ _ (λ e. then (Came h p t a w) J (arrive h p t a w) _ (arrive_came h p t a w) λ v c. rest v (k a (here refl) e w v j c)) (λ e. rest w j)
