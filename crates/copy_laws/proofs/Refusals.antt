-- The numbers that a call can be refused by, whatever the stores. Assumes nothing.
use Rattle.std.specs.Prelude.{◌≡◌, refl, Bool, not, ◌&&◌, ◌||◌, length, eqb, leb, ltb, Float}
use Rattle.std.proofs.Common.{sym, ap, subst}
use Prim.Native.Nat.{ℕ, zero, suc}
use Rattle.std.proofs.Math.Bool.{true, false}
use Rattle.std.proofs.Math.Option.{Option, none, some}
use mathlib.Core.List.Memᴰ.{head as here}
use mathlib.Core.List.Memᴰ.{tail as there}
use mathlib.Core.List.{List, [], ◌∷◌, map}
use Rattle.std.proofs.Math.ListN.{get_or}
use Rattle.lists.specs.Tests.{never}
use Rattle.lists.specs.Lists.{◌∈◌, all}
use Rattle.lists.specs.Members.{all_each}
use Rattle.real32.specs.Small.{tame}
use Rattle.model.specs.Basics.{◌≺◌, ◌≼◌, ◌⊕◌, ◌⊖◌, refuse, first_of, over, Outcome, ok, refused, ◌>>=◌, check, Place, nowhere, at_frames, Refusal}
use Rattle.model.specs.Graph.{Graph, Arc, no_state, arcs_of, emits, has_eps}
use Rattle.model.specs.Path.{Path, Token, Table, Limits, is_link, memℕ}
use Rattle.model.specs.Cutoff.{Config, best, get_cutoff}
use Rattle.model.specs.Arrive.{Pass, emitting, nonemitting, takes, loglike, lower, total, Here, Work, Meets, past_cutoff, vacant, better, not_better, against, meets, step_on, arriving, keeps, keep, path_in_hand, check_winner, Change, arc_cut, token_stays, token_wins, token_joins, fills, beats, loses, settle, passed, put, push, push_winner, push_joined, finish, place_of, arrive, arrive_all}
use Rattle.model.specs.Passes.{first_look, offset_of, look, empty_work, emit_from, emitting_pass, push_from, popped, expand, drain, fuel, nonemitting_pass, State, dropped, done, during, start_work, start, check_frame, frame, fair_margin, set_keep}
use Rattle.model.specs.Reads.{best_path, Traced, Group, trace_groups, alternatives}
use Rattle.model.specs.Readings.{readings}
use Rattle.model.specs.Calls.{Read, best_path_read, alternatives_read, readings_read, relative_cost_read, num_active_read, frames_decoded_read, Call, start_call, frame_call, keep_call, read_call, Reading, Answer, refusal_answer, done_answer, path_answer, paths_answer, readings_answer, count_answer, cost_answer, reading_of, words_of, short, to_list, unless, read_best, read_alternatives, read_readings, read_answer, said, call, told_call}
use Rattle.model.specs.Accepted.{Ok}
use Rattle.model.proofs.Accepted.{branches}
use Rattle.model.proofs.Came.{Came, arrive_came, arrive_all-keeps}
use Rattle.copy_laws.specs.Tables.{At}
use Rattle.copy_laws.specs.Begun.{Starts}
use Rattle.copy_laws.proofs.Begun.{push_starts}
use Rattle.copy_laws.specs.Claims.{read_refusals, refusals_of}
use Rattle.copy_laws.specs.Refusals.{By, AnswerBy}

module _ (ns : List ℕ) where
  by_then : {A B : Type 0} (P : A → Type 0) (m : Outcome A) (f : A → Outcome B) → Ok P m → By ns m → ((a : A) → P a → By ns (f a)) → By ns (m >>= f)
  by_then P (ok a) f p b k = k a p
  by_then P (refused n) f p b k = b

  by_bind : {A B : Type 0} (m : Outcome A) (f : A → Outcome B) → By ns m → ((a : A) → By ns (f a)) → By ns (m >>= f)
  by_bind (ok a) f b k = k a
  by_bind (refused n) f b k = b

  by_if : {A : Type 0} (b : Bool) (x y : Outcome A) → (b ≡ true → By ns x) → (b ≡ false → By ns y) → By {A = A} ns (elim b as (λ c. Outcome A) [ true ↦ x | false ↦ y ])
  by_if true x y p q = p refl
  by_if false x y p q = q refl

  by_check : (n : ℕ) (b : Bool) → (b ≡ false → n ∈ ns) → By ns (check n b)
  by_check n true f = tt
  by_check n false f = f refl

-- ---- an arriving arc: 12 where a sum is not tame, 13 for a record or a join, 14 for a push

module _ (ns : List ℕ) (full : 13 ∈ ns) (queue : 14 ∈ ns) (h : Here) where
  keep_by : (hand : List Path) (n : ℕ) (gap : Float) (won lost : Token) → By ns (keep h hand n gap won lost)
  unfolding keep
  keep_by hand n gap won lost = by_if ns (keeps h.margin gap won lost) _ _ (λ e. by_if ns (h.limits.full hand) _ _ (λ f. full) (λ f. tt)) (λ e. tt)

  push_by_lem : (s : ℕ) (re : List ℕ) (w : Work) → By ns (push h s re w)
  unfolding push
  push_by_lem s re w = by_if ns (over (suc (length w.queue)) h.limits.queue) _ _ (λ e. queue) (λ e. tt)

  push_winner-by : (p : Pass) (s : ℕ) (w : Work) → By ns (push_winner h p s w)
  push_winner-by (emitting ls off ad) s w = tt
  push_winner-by nonemitting s w = push_by_lem s w.requeued w

  push_joined-by : (p : Pass) (s : ℕ) (w : Work) → By ns (push_joined h p s w)
  push_joined-by (emitting ls off ad) s w = tt
  push_joined-by nonemitting s w = by_if ns (has_eps h.graph s && not (memℕ s w.requeued)) _ _ (λ e. push_by_lem s (s ∷ w.requeued) w) (λ e. tt)

  finish_by : (p : Pass) (s : ℕ) (tot : Float) (w : Work) (c : Change) → By ns (finish h p s tot w c)
  unfolding finish
  finish_by p s tot w arc_cut = tt
  finish_by p s tot w token_stays = tt
  finish_by p s tot w (token_wins t q) = push_winner-by p s (put s t q (passed p tot w))
  finish_by p s tot w (token_joins t) = push_joined-by p s (put s t w.seq (passed p tot w))

  -- its total and the graph sum are tame, or 12 is one of the numbers
  pub record Tamed (p : Pass) (t : Token) (a : Arc) : Type 0 where
    pub cost : tame (total h.graph p t a) ≡ false → 12 ∈ ns
    pub graph : tame (t.graph ⊕ a.weight) ≡ false → 12 ∈ ns

  winner_by : (w : Work) (p : Pass) (t : Token) (a : Arc) → Tamed p t a → By ns (check_winner h w p t a)
  unfolding check_winner
  winner_by w p t a d = by_bind ns (check 12 (tame (t.graph ⊕ a.weight))) _ (by_check ns 12 (tame (t.graph ⊕ a.weight)) d.graph) λ u.
      by_check ns 13 (not (is_link (step_on h p t a 0 false) && h.limits.full (path_in_hand h w t.path))) (λ e. full)

  settle_by : (p : Pass) (t : Token) (a : Arc) (w : Work) → Tamed p t a → (m : Meets) → By ns (settle h p t a w m)
  unfolding settle fills beats loses
  settle_by p t a w d past_cutoff = tt
  settle_by p t a w d vacant =
      by_bind ns (check 12 (tame (total h.graph p t a))) _ (by_check ns 12 (tame (total h.graph p t a)) d.cost) λ u.
      by_bind ns (check_winner h w p t a) _ (winner_by w p t a d) λ v. tt
  settle_by p t a w d (better gap held) =
      let new = arriving h p t a w.fresh held.seq false in
      by_bind ns (check 12 (tame (total h.graph p t a))) _ (by_check ns 12 (tame (total h.graph p t a)) d.cost) λ u.
      by_bind ns (check_winner h w p t a) _ (winner_by w p t a d) λ v.
      by_bind ns (keep h (path_in_hand h w new.path) (suc w.fresh) gap new held) _ (keep_by _ (suc w.fresh) gap new held) λ j. tt
  settle_by p t a w d (not_better gap held) =
      let new = arriving h p t a w.fresh 0 true in
      by_bind ns (check 12 (tame (total h.graph p t a))) _ (by_check ns 12 (tame (total h.graph p t a)) d.cost) λ u.
      by_bind ns (keep h (path_in_hand h w new.path) (suc w.fresh) gap held new) _ (keep_by _ (suc w.fresh) gap held new) λ j. tt

  -- an arc that is cut off is not tested
  arrive_by : (p : Pass) (t : Token) (a : Arc) (w : Work) → ((w.cutoff ≼ total h.graph p t a) ≡ false → Tamed p t a) → By ns (arrive h p t a w)
  unfolding arrive meets
  arrive_by p t a w d =
      let tot = total h.graph p t a in
      by_bind ns (settle h p t a w (meets w.cutoff tot (place_of w a))) (finish h p a.target tot w) (go (w.cutoff ≼ tot) refl) (finish_by p a.target tot w)
    where
      go : (b : Bool) → (w.cutoff ≼ total h.graph p t a) ≡ b → By ns (settle h p t a w (elim b as (λ c. Meets) [ true ↦ past_cutoff | false ↦ against (total h.graph p t a) (place_of w a) ]))
      go true e = unfold settle in tt
      go false e = settle_by p t a w (d e) (against (total h.graph p t a) (place_of w a))

  -- the arcs of a token, with what holds of the work while they arrive
  arrive_all-by : (J : Work → Type 0) (p : Pass) (t : Token) (as' : List Arc) → ((a : Arc) → a ∈ as' → takes p a ≡ true → (w v : Work) → J w → Came h p t a w v → J v)
      → ((a : Arc) → a ∈ as' → takes p a ≡ true → (w : Work) → J w → (w.cutoff ≼ total h.graph p t a) ≡ false → Tamed p t a) → (w : Work) → J w → By ns (arrive_all h p t as' w)
  unfolding arrive_all
  arrive_all-by J p t [] k d w j = tt
  arrive_all-by J p t (a ∷ rest) k d w j =
      let more = arrive_all-by J p t rest (λ b m. k b (there m)) (λ b m. d b (there m)) in
      by_if ns (takes p a) _ _ (λ e. by_then ns (Came h p t a w) (arrive h p t a w) _ (arrive_came h p t a w) (arrive_by p t a w (d a (here refl) e w j)) λ v c. more v (k a (here refl) e w v j c)) (λ e. more w j)

  -- ---- the nonemitting pass

  push_from-by : (s : ℕ) (ts : Table) (w : Work) → By ns (push_from h s ts w)
  unfolding push_from
  push_from-by s [] w = tt
  push_from-by s (none ∷ ts) w = push_from-by (suc s) ts w
  push_from-by s (some t ∷ ts) w = by_if ns (has_eps h.graph s) _ _ (λ e. by_bind ns (push h s [] w) _ (push_by_lem s [] w) λ v. push_from-by (suc s) ts v) (λ e. push_from-by (suc s) ts w)

  -- J holds of the work between two arrivals, Fine of its tokens: together they keep every sum that is tested tame
  pub record Steady (J : Work → Type 0) (Fine : Token → Type 0) : Type 0 where
    pub tokens : (w : Work) (s : ℕ) (t : Token) → J w → At w.table s t → Fine t
    pub pops : (w : Work) (q : List ℕ) → J w → J (popped w q)
    pub step : (s : ℕ) (t : Token) (a : Arc) → a ∈ arcs_of h.graph s → takes nonemitting a ≡ true → Fine t → (w v : Work) → J w → Came h nonemitting t a w v → J v
    pub tamed : (s : ℕ) (t : Token) (a : Arc) → a ∈ arcs_of h.graph s → takes nonemitting a ≡ true → Fine t → (w : Work) → J w → (w.cutoff ≼ total h.graph nonemitting t a) ≡ false → Tamed nonemitting t a

  module _ (J : Work → Type 0) (Fine : Token → Type 0) (steady : Steady J Fine) where
    expand_keeps : (s : ℕ) (w : Work) (o : Option Token) → ((t : Token) → o ≡ some t → Fine t) → J w → Ok J (expand h s o w)
    unfolding expand
    expand_keeps s w none f j = j
    expand_keeps s w (some t) f j =
        branches J (w.cutoff ≼ t.cost) _ _ (λ e. j) (λ e. arrive_all-keeps J h nonemitting t (arcs_of h.graph s) (λ a m k. steady.step s t a m k (f t refl)) w j)

    expand_by : (s : ℕ) (w : Work) (o : Option Token) → ((t : Token) → o ≡ some t → Fine t) → J w → By ns (expand h s o w)
    unfolding expand
    expand_by s w none f j = tt
    expand_by s w (some t) f j =
        by_if ns (w.cutoff ≼ t.cost) _ _ (λ e. tt)
        (λ e. arrive_all-by J nonemitting t (arcs_of h.graph s) (λ a m k. steady.step s t a m k (f t refl)) (λ a m k. steady.tamed s t a m k (f t refl)) w j)

    drain_by : (n : ℕ) (w : Work) → J w → By ns (drain n h w)
    unfolding drain
    drain_by zero w j = tt
    drain_by (suc n) w j = go (drain_by n) w.queue
      where
        go : ((v : Work) → J v → By ns (drain n h v)) → (r : List ℕ) → By {A = Work} ns (elim r as (λ x. Outcome Work) [ [] ↦ ok w | s ∷ q ↦ expand h s (get_or w.table s none) (popped w q) >>= λ v. drain n h v ])
        go rec [] = tt
        go rec (s ∷ q) =
            let o = get_or w.table s none in
            by_then ns J (expand h s o (popped w q)) _ (expand_keeps s (popped w q) o (λ t. steady.tokens w s t j) (steady.pops w q j)) (expand_by s (popped w q) o (λ t. steady.tokens w s t j) (steady.pops w q j)) rec

    pub nonemitting_by : (w : Work) → ((v : Work) → Starts h.graph w v → J v) → By ns (nonemitting_pass h w)
    unfolding nonemitting_pass
    nonemitting_by w begin = by_then ns (Starts h.graph w) (push_from h 0 w.table w) _ (push_starts h w) (push_from-by 0 w.table w) λ v b. drain_by (fuel h.graph) v (begin v b)

  -- ---- with 12 among the numbers nothing need be known of the sums

  module _ (sums : 12 ∈ ns) where
    tamed_or_12 : (p : Pass) (t : Token) (a : Arc) → Tamed p t a
    tamed_or_12 p t a = record { cost = λ e. sums; graph = λ e. sums }

    pub nonemitting_any : (w : Work) → By ns (nonemitting_pass h w)
    nonemitting_any w =
        nonemitting_by (λ w. Unit {0}) (λ t. Unit {0}) (record { tokens = λ w s t j e. tt; pops = λ w q j. tt; step = λ s t a m k f w v j c. tt; tamed = λ s t a m k f w j e. tamed_or_12 nonemitting t a }) w (λ v b. tt)

    first_look-by : (g : Graph) (ls : List Float) (off ad cost : Float) (as' : List Arc) (next : Float) → By ns (first_look g ls off ad cost as' next)
    unfolding first_look
    first_look-by g ls off ad cost [] next = tt
    first_look-by g ls off ad cost (a ∷ rest) next =
        let x = a.weight ⊕ off ⊖ loglike g ls a ⊕ cost in
        by_if ns (emits a) _ _ (λ e. by_bind ns (check 12 (tame x)) _ (by_check ns 12 (tame x) (λ f. sums)) λ u. first_look-by g ls off ad cost rest (lower (emitting ls off ad) x next)) (λ e. first_look-by g ls off ad cost rest next)

    look_by : (g : Graph) (ls : List Float) (ad : Float) (b : Option (ℕ × Token)) → By ns (look g ls ad b)
    look_by g ls ad none = tt
    look_by g ls ad (some b) = first_look-by g ls _ ad b.1.cost (arcs_of g b.0) _

    emit_from-by : (p : Pass) (cut : Float) (s : ℕ) (ts : Table) (w : Work) → By ns (emit_from h p cut s ts w)
    unfolding emit_from
    emit_from-by p cut s [] w = tt
    emit_from-by p cut s (none ∷ ts) w = emit_from-by p cut (suc s) ts w
    emit_from-by p cut s (some t ∷ ts) w =
        by_if ns (cut ≺ t.cost) _ _ (λ e. emit_from-by p cut (suc s) ts w)
        (λ e. by_bind ns (arrive_all h p t (arcs_of h.graph s) w) _ (arrive_all-by (λ v. Unit {0}) p t (arcs_of h.graph s) (λ a m k x y j c. tt) (λ a m k x j f. tamed_or_12 p t a) w tt) λ v. emit_from-by p cut (suc s) ts v)

    pub emitting_any : (c : Config) (ls : List Float) (ts : Table) (q n : ℕ) → By ns (emitting_pass h c ls ts q n)
    unfolding emitting_pass
    emitting_any c ls ts q n =
        let cut = get_cutoff c ts in
        by_bind ns (look h.graph ls cut.adaptive (best ts)) _ (look_by h.graph ls cut.adaptive (best ts)) λ next. emit_from-by (emitting ls (offset_of (best ts)) cut.adaptive) cut.cutoff 0 ts (empty_work h.graph q n next)

-- ---- the calls

pub start_by : (ns : List ℕ) (g : Graph) (c : Config) (l : Limits) (st : State) → (eqb g.start no_state ≡ false → By ns (nonemitting_pass (during g l st 0 []) (start_work g c))) → By ns (start g c l st)
unfolding start
start_by ns g c l st k = by_if ns (eqb g.start no_state) _ _ (λ e. tt) (λ e. by_bind ns (nonemitting_pass (during g l st 0 []) (start_work g c)) _ (k e) λ v. tt)

frame_by : (ns : List ℕ) → 10 ∈ ns → 8 ∈ ns → 9 ∈ ns → 12 ∈ ns → 13 ∈ ns → 14 ∈ ns → (g : Graph) (c : Config) (l : Limits) (ls : List Float) (st : State) → By ns (frame g c l ls st)
unfolding frame check_frame
frame_by ns m10 m8 m9 m12 m13 m14 g c l ls st = go (leb 65_536 st.frames) (not (eqb (length ls) g.pdfs)) (not (all tame ls))
  where
    h : Here
    h = during g l st st.frames st.table

    go : (a b d : Bool) → By {A = State} ns (elim (first_of (refuse 10 a ∷ refuse 8 b ∷ refuse 9 d ∷ [])) as (λ x. Outcome State) [
      | none ↦ emitting_pass h c ls st.table st.seq st.fresh >>= λ w. nonemitting_pass h w >>= λ v. ok (done st (suc st.frames) v)
      | some n ↦ refused n
    ])
    go true b d = m10
    go false true d = m8
    go false false true = m9
    go false false false =
        by_bind ns (emitting_pass h c ls st.table st.seq st.fresh) _ (emitting_any ns m13 m14 h m12 c ls st.table st.seq st.fresh) λ w.
        by_bind ns (nonemitting_pass h w) _ (nonemitting_any ns m13 m14 h m12 w) λ v. tt

keep_margin_by : (m : Option Float) (st : State) → By (6 ∷ []) (set_keep m st)
unfolding set_keep
keep_margin_by m st = by_if (6 ∷ []) (fair_margin m) _ _ (λ e. tt) (λ e. here refl)

pub said_by_lem : (ns : List ℕ) (old : State) (p : Place) (o : Outcome State) → By ns o → AnswerBy ns (said old p o).answer
said_by_lem ns old p (ok s) b = tt
said_by_lem ns old p (refused n) b = b

read_by : (g : Graph) (l : Limits) (r : Read) (st : State) → AnswerBy (read_refusals r) (read_answer g l r st)
unfolding read_answer read_best read_alternatives read_readings
read_by g l (best_path_read f z) st = let p = best_path g st f in go (short z (words_of (to_list p)) (to_list p) 0)
  where
    go : (b : Bool) → AnswerBy (11 ∷ []) (unless (refuse 11 b) (path_answer (best_path g st f)))
    go true = here refl
    go false = tt
read_by g l (alternatives_read f max z) st = let ps = alternatives g st f max in go (ltb 64 max) (short z (words_of ps) ps (length ps))
  where
    go : (a b : Bool) → AnswerBy (6 ∷ 11 ∷ []) (unless (first_of (refuse 6 a ∷ refuse 11 b ∷ [])) (paths_answer (alternatives g st f max)))
    go true b = here refl
    go false true = there (here refl)
    go false false = tt
read_by g l (readings_read f n max z) st =
    let r = readings g st f n in
    let ps = trace_groups st max r.groups in
    go (ltb 64 n || ltb 64 max) (over r.belows l.below || over r.kepts l.kept) (short z (map (λ (x : Group). x.words) r.groups) ps (length r.groups)) (map reading_of r.groups) ps
  where
    go : (a b d : Bool) (rs : List Reading) (ps : List Traced) → AnswerBy (6 ∷ 15 ∷ 11 ∷ []) (unless (first_of (refuse 6 a ∷ refuse 15 b ∷ refuse 11 d ∷ [])) (readings_answer rs ps))
    go true b d rs ps = here refl
    go false true d rs ps = there (here refl)
    go false false true rs ps = there (there (here refl))
    go false false false rs ps = tt
read_by g l relative_cost_read st = tt
read_by g l num_active_read st = tt
read_by g l frames_decoded_read st = tt

call_by : (g : Graph) (c : Config) (l : Limits) (k : Call) (st : State) → AnswerBy (refusals_of k) (call g c l k st).answer
unfolding call
call_by g c l start_call st =
    let ns = refusals_of start_call in
    said_by_lem ns (dropped g st) nowhere (start g c l st) (start_by ns g c l st (λ e. nonemitting_any ns (there (here refl)) (there (there (here refl))) (during g l st 0 []) (here refl) (start_work g c)))
call_by g c l (frame_call ls) st =
    let ns = refusals_of (frame_call ls) in
    said_by_lem ns st (at_frames st.frames) (frame g c l ls st)
    (frame_by ns (here refl) (there (here refl)) (there (there (here refl))) (there (there (there (here refl)))) (there (there (there (there (here refl))))) (there (there (there (there (there (here refl)))))) g c l ls st)
call_by g c l (keep_call m) st = said_by_lem (6 ∷ []) st nowhere (set_keep m st) (keep_margin_by m st)
call_by g c l (read_call r) st = read_by g l r st

pub call_refusals : (g : Graph) (c : Config) (l : Limits) (k : Call) (st : State) (r : Refusal) → (call g c l k st).answer ≡ refusal_answer r → r.number ∈ refusals_of k
call_refusals g c l k st r e = subst (AnswerBy (refusals_of k)) e (call_by g c l k st)

positive : (ns : List ℕ) → all (ltb 0) ns ≡ true → 0 ∈ ns → ⊥
positive ns e m = never (all_each (ltb 0) ns e 0 m)

pub told_refusals : (g : Graph) (c : Config) (k : Call) (n : ℕ) (st : State) (r : Refusal) → (told_call g c k (suc n) st).answer ≡ refusal_answer r → r.number ≡ suc n
unfolding told_call
told_refusals g c k n st r e = ap number_in (sym e)
  where
    number_in : Answer → ℕ
    number_in (refusal_answer r) = r.number
    number_in done_answer = 0
    number_in (path_answer p) = 0
    number_in (paths_answer ps) = 0
    number_in (readings_answer rs ps) = 0
    number_in (count_answer n) = 0
    number_in (cost_answer x) = 0

-- none of the numbers is 0
pub refusals_positive : (k : Call) → 0 ∈ refusals_of k → ⊥
refusals_positive start_call m = positive (refusals_of start_call) refl m
refusals_positive (frame_call ls) m = positive (refusals_of (frame_call ls)) refl m
refusals_positive (keep_call x) m = positive (6 ∷ []) refl m
refusals_positive (read_call r) m = positive (read_refusals r) (reads r) m
  where
    reads : (r : Read) → all (ltb 0) (read_refusals r) ≡ true
    reads (best_path_read f z) = refl
    reads (alternatives_read f max z) = refl
    reads (readings_read f n max z) = refl
    reads relative_cost_read = refl
    reads num_active_read = refl
    reads frames_decoded_read = refl
