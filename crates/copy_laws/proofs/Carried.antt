-- Facts carried through the passes: one law for what holds while a token is in hand, whichever the pass, and whether or not it is claimed that no cutoff drops anything. Assumes nothing.
use Rattle.std.specs.Prelude.{◌≡◌, Bool, ◌||◌, length, Float}
use Rattle.std.proofs.Math.Path.{refl, ap, subst}
use Rattle.std.proofs.Common.{sym, ◌∙◌, add-zero, zero-add, suc-add, add-suc}
use Prim.Native.Nat.{ℕ, zero, suc, ◌+◌}
use Rattle.std.proofs.Math.Bool.{true, false}
use Rattle.std.proofs.Math.Option.{Option, none, some}
use mathlib.Core.List.Memᴰ.{head as here}
use mathlib.Core.List.Memᴰ.{tail as there}
use mathlib.Core.List.{List, [], ◌∷◌}
use Rattle.std.proofs.Math.ListN.{get_or}
use Rattle.lists.specs.Tests.{or_neither, never}
use Rattle.lists.specs.Lists.{◌∈◌}
use Rattle.model.specs.Basics.{◌≺◌, ◌≼◌, Outcome, ok, refused, ◌>>=◌}
use Rattle.model.specs.Graph.{Arc, arcs_of}
use Rattle.model.specs.Path.{Token, Table}
use Rattle.model.specs.Cutoff.{Config, best, get_cutoff}
use Rattle.model.specs.Arrive.{Pass, emitting, nonemitting, takes, total, Here, Work, arrive, arrive_all}
use Rattle.model.specs.Passes.{offset_of, look, empty_work, emit_from, emitting_pass, push_from, popped, expand, drain, fuel, nonemitting_pass}
use Rattle.model.specs.Accepted.{Ok}
use Rattle.model.proofs.Accepted.{weaken}
use Rattle.model.proofs.Came.{Came, arrive_came}
use Rattle.copy_laws.specs.Drops.{on_ok, drops_total, drops_emit, drops_emitting, drops_popped, drops_queue, drops_nonemitting}
use Rattle.copy_laws.specs.Tables.{At}
use Rattle.copy_laws.specs.Begun.{Starts}
use Rattle.copy_laws.proofs.Begun.{push_starts}

-- then, beside a test that a claim makes false
pub then_uncut : {A B : Type 0} (U : Type 0) (P : A → Type 0) (Q : B → Type 0) (f : A → Bool) (m : Outcome A) (k : A → Outcome B) → Ok P m → (U → on_ok f m ≡ false) → ((a : A) → P a → (U → f a ≡ false) → Ok Q (k a)) → Ok Q (m >>= k)
then_uncut U P Q f (ok a) k p e g = g a p e
then_uncut U P Q f (refused n) k p e g = tt

any_ok : {A : Type 0} (m : Outcome A) → Ok (λ a. Unit {0}) m
any_ok (ok a) = tt
any_ok (refused n) = tt

module _ (U : Type 0) (h : Here) (p : Pass) (Hand : ℕ → Token → List Arc → Work → Type 0) where
  -- `Hand s t rest w` holds while state s's token t is in hand and these arcs of it are still to come. U claims that nothing is cut.
  pub record Carried : Type 0 where
    pub step : (s : ℕ) (t : Token) (a : Arc) (rest : List Arc) → a ∈ arcs_of h.graph s → takes p a ≡ true → (w v : Work) → (U → (w.cutoff ≼ total h.graph p t a) ≡ false) → Hand s t (a ∷ rest) w → Came h p t a w v → Hand s t rest v
    pub skip : (s : ℕ) (t : Token) (a : Arc) (rest : List Arc) → takes p a ≡ false → (w : Work) → Hand s t (a ∷ rest) w → Hand s t rest w

  module _ (carried : Carried) where
    arrive_all-carried : (s : ℕ) (t : Token) (as' : List Arc) → ((a : Arc) → a ∈ as' → a ∈ arcs_of h.graph s) → (w : Work) → (U → drops_total h p t as' w ≡ false) → Hand s t as' w → Ok (Hand s t []) (arrive_all h p t as' w)
    unfolding arrive_all drops_total
    arrive_all-carried s t [] i w d c = c
    arrive_all-carried s t (a ∷ rest) i w d c = go (takes p a) refl (arrive_all-carried s t rest (λ b m. i b (there m))) d
      where
        go : (b : Bool) → takes p a ≡ b → ((v : Work) → (U → drops_total h p t rest v ≡ false) → Hand s t rest v → Ok (Hand s t []) (arrive_all h p t rest v))
            → (U → (elim b as (λ x. Bool) [ true ↦ (w.cutoff ≼ total h.graph p t a) || on_ok (drops_total h p t rest) (arrive h p t a w) | false ↦ drops_total h p t rest w ]) ≡ false)
            → Ok (Hand s t []) (elim b as (λ x. Outcome Work) [ true ↦ arrive h p t a w >>= λ v. arrive_all h p t rest v | false ↦ arrive_all h p t rest w ])
        go true e rec d =
            then_uncut U (Came h p t a w) (Hand s t []) (drops_total h p t rest) (arrive h p t a w) _ (arrive_came h p t a w) (λ u. (or_neither (w.cutoff ≼ total h.graph p t a) _ (d u)).1) λ v m y.
            rec v y (carried.step s t a rest (i a (here refl)) e w v (λ u. (or_neither (w.cutoff ≼ total h.graph p t a) _ (d u)).0) c m)
        go false e rec d = rec w d (carried.skip s t a rest e w c)

    pub hand_carried : (s : ℕ) (t : Token) (w : Work) → (U → drops_total h p t (arcs_of h.graph s) w ≡ false) → Hand s t (arcs_of h.graph s) w → Ok (Hand s t []) (arrive_all h p t (arcs_of h.graph s) w)
    hand_carried s t = arrive_all-carried s t (arcs_of h.graph s) (λ a m. m)

-- ---- the emitting pass, over the tokens of a table; `J s` holds when those below s are done

module _ (U : Type 0) (h : Here) (p : Pass) (ts : Table) (J : ℕ → Work → Type 0) (Hand : ℕ → Token → List Arc → Work → Type 0) where
  pub record Visiting : Type 0 where
    pub carried : Carried U h p Hand
    pub take_up : (s : ℕ) (t : Token) (w : Work) → At ts s t → J s w → Hand s t (arcs_of h.graph s) w
    pub put_down : (s : ℕ) (t : Token) (w : Work) → At ts s t → Hand s t [] w → J (suc s) w
    pub vacant : (s : ℕ) (w : Work) → get_or ts s none ≡ none → J s w → J (suc s) w
    pub cut : (s : ℕ) (t : Token) (w : Work) → (U → ⊥) → J s w → J (suc s) w

  -- the rest of the table, from s on
  abbrev Follows : ℕ → Table → Type 0
  Follows s rest = (i : ℕ) → get_or rest i none ≡ get_or ts (i + s) none

  follows_at : (s : ℕ) (o : Option Token) (rest : Table) → Follows s (o ∷ rest) → get_or ts s none ≡ o
  follows_at s o rest r = sym (r 0 ∙ ap (λ (k : ℕ). get_or ts k none) (zero-add s))

  follows_on : (s : ℕ) (o : Option Token) (rest : Table) → Follows s (o ∷ rest) → Follows (suc s) rest
  follows_on s o rest r i = r (suc i) ∙ ap (λ (k : ℕ). get_or ts k none) (suc-add i s ∙ sym (add-suc i s))

  one_further : (s n : ℕ) (m : Outcome Work) → Ok (J (n + suc s)) m → Ok (J (suc n + s)) m
  one_further s n m = subst (λ (k : ℕ). Ok (J k) m) (add-suc n s ∙ sym (suc-add n s))

  module _ (visiting : Visiting) where
    emit_from-carried : (cut : Float) (s : ℕ) (rest : Table) → Follows s rest → (w : Work) → (U → drops_emit h p cut s rest w ≡ false) → J s w → Ok (J (length rest + s)) (emit_from h p cut s rest w)
    unfolding emit_from drops_emit
    emit_from-carried cut s [] r w d j = subst (λ (k : ℕ). J k w) (sym (zero-add s)) j
    emit_from-carried cut s (none ∷ rest) r w d j =
        one_further s (length rest) (emit_from h p cut (suc s) rest w) (emit_from-carried cut (suc s) rest (follows_on s none rest r) w d (visiting.vacant s w (follows_at s none rest r) j))
    emit_from-carried cut s (some t ∷ rest) r w d j =
        go (cut ≺ t.cost) d (λ v e k. one_further s (length rest) (emit_from h p cut (suc s) rest v) (emit_from-carried cut (suc s) rest (follows_on s (some t) rest r) v e k))
      where
        Done : Work → Type 0
        Done = J (suc (length rest) + s)

        here_at : At ts s t
        here_at = follows_at s (some t) rest r

        go : (b : Bool) → (U → (elim b as (λ x. Bool) [ true ↦ true | false ↦ drops_total h p t (arcs_of h.graph s) w || on_ok (drops_emit h p cut (suc s) rest) (arrive_all h p t (arcs_of h.graph s) w) ]) ≡ false)
            → ((v : Work) → (U → drops_emit h p cut (suc s) rest v ≡ false) → J (suc s) v → Ok Done (emit_from h p cut (suc s) rest v))
            → Ok Done (elim b as (λ x. Outcome Work) [ true ↦ emit_from h p cut (suc s) rest w | false ↦ arrive_all h p t (arcs_of h.graph s) w >>= λ v. emit_from h p cut (suc s) rest v ])
        go true d rec = rec w (λ u. never (sym (d u))) (visiting.cut s t w (λ u. never (sym (d u))) j)
        go false d rec =
            then_uncut U (Hand s t []) Done (drops_emit h p cut (suc s) rest) (arrive_all h p t (arcs_of h.graph s) w) _
            (hand_carried U h p Hand visiting.carried s t w (λ u. (or_neither (drops_total h p t (arcs_of h.graph s) w) _ (d u)).0) (visiting.take_up s t w here_at j))
            (λ u. (or_neither (drops_total h p t (arcs_of h.graph s) w) _ (d u)).1) λ v k y. rec v y (visiting.put_down s t v here_at k)

-- the whole pass, from a table of no tokens
module _ (U : Type 0) (h : Here) (c : Config) (ls : List Float) (ts : Table) (q n : ℕ) (J : ℕ → Work → Type 0) (Hand : ℕ → Token → List Arc → Work → Type 0) where
  abbrev pub pass_of : Pass
  pass_of = emitting ls (offset_of (best ts)) (get_cutoff c ts).adaptive

  pub emitting_carried : Visiting U h pass_of ts J Hand → ((next : Float) → J 0 (empty_work h.graph q n next)) → (U → drops_emitting h c ls ts q n ≡ false) → Ok (J (length ts)) (emitting_pass h c ls ts q n)
  unfolding emitting_pass drops_emitting
  emitting_carried visiting first d =
      let cut = get_cutoff c ts in
      then_uncut U (λ next. Unit {0}) (J (length ts)) (λ next. drops_emit h pass_of cut.cutoff 0 ts (empty_work h.graph q n next)) (look h.graph ls cut.adaptive (best ts)) _
      (any_ok (look h.graph ls cut.adaptive (best ts))) d λ next x y.
      subst (λ (k : ℕ). Ok (J k) (emit_from h pass_of cut.cutoff 0 ts (empty_work h.graph q n next))) (add-zero (length ts))
      (emit_from-carried U h pass_of ts J Hand visiting cut.cutoff 0 ts (λ i. ap (λ (k : ℕ). get_or ts k none) (sym (add-zero i))) (empty_work h.graph q n next) y (first next))

-- ---- the nonemitting pass; `J` holds between two pops

module _ (U : Type 0) (h : Here) (J : Work → Type 0) (Hand : ℕ → Token → List Arc → Work → Type 0) where
  pub record Draining : Type 0 where
    pub carried : Carried U h nonemitting Hand
    pub take_up : (s : ℕ) (q : List ℕ) (t : Token) (w : Work) → w.queue ≡ s ∷ q → At w.table s t → J w → Hand s t (arcs_of h.graph s) (popped w q)
    pub put_down : (s : ℕ) (t : Token) (w : Work) → Hand s t [] w → J w
    pub vacant : (s : ℕ) (q : List ℕ) (w : Work) → w.queue ≡ s ∷ q → get_or w.table s none ≡ none → J w → J (popped w q)
    pub cut : (s : ℕ) (q : List ℕ) (w : Work) → w.queue ≡ s ∷ q → (U → ⊥) → J w → J (popped w q)

  module _ (draining : Draining) where
    expand_carried : (s : ℕ) (q : List ℕ) (w : Work) → w.queue ≡ s ∷ q → (o : Option Token) → get_or w.table s none ≡ o → (U → drops_popped h s o (popped w q) ≡ false) → J w → Ok J (expand h s o (popped w q))
    unfolding expand drops_popped
    expand_carried s q w e none f d j = draining.vacant s q w e f j
    expand_carried s q w e (some t) f d j = go (w.cutoff ≼ t.cost) d
      where
        go : (b : Bool) → (U → (elim b as (λ x. Bool) [ true ↦ true | false ↦ drops_total h nonemitting t (arcs_of h.graph s) (popped w q) ]) ≡ false)
            → Ok J (elim b as (λ x. Outcome Work) [ true ↦ ok (popped w q) | false ↦ arrive_all h nonemitting t (arcs_of h.graph s) (popped w q) ])
        go true d = draining.cut s q w e (λ u. never (sym (d u))) j
        go false d = weaken (Hand s t []) J (arrive_all h nonemitting t (arcs_of h.graph s) (popped w q)) (draining.put_down s t) (hand_carried U h nonemitting Hand draining.carried s t (popped w q) d (draining.take_up s q t w e f j))

    drain_carried : (n : ℕ) (w : Work) → (U → drops_queue n h w ≡ false) → J w → Ok J (drain n h w)
    unfolding drain drops_queue
    drain_carried zero w d j = j
    drain_carried (suc n) w d j = go w.queue refl (drain_carried n) d
      where
        go : (r : List ℕ) → w.queue ≡ r → ((v : Work) → (U → drops_queue n h v ≡ false) → J v → Ok J (drain n h v))
            → (U → (elim r as (λ x. Bool) [ [] ↦ false | s ∷ q ↦ drops_popped h s (get_or w.table s none) (popped w q) || on_ok (drops_queue n h) (expand h s (get_or w.table s none) (popped w q)) ]) ≡ false)
            → Ok J (elim r as (λ x. Outcome Work) [ [] ↦ ok w | s ∷ q ↦ expand h s (get_or w.table s none) (popped w q) >>= λ v. drain n h v ])
        go [] e rec d = j
        go (s ∷ q) e rec d =
            let o = get_or w.table s none in
            then_uncut U J J (drops_queue n h) (expand h s o (popped w q)) _ (expand_carried s q w e o refl (λ u. (or_neither (drops_popped h s o (popped w q)) _ (d u)).0) j) (λ u. (or_neither (drops_popped h s o (popped w q)) _ (d u)).1) λ v k y. rec v y k

    -- the whole pass, from what its pushes leave
    pub nonemitting_carried : (w : Work) → ((v : Work) → Starts h.graph w v → J v) → (U → drops_nonemitting h w ≡ false) → Ok J (nonemitting_pass h w)
    unfolding nonemitting_pass drops_nonemitting
    nonemitting_carried w begin d =
        then_uncut U (Starts h.graph w) J (drops_queue (fuel h.graph) h) (push_from h 0 w.table w) _ (push_starts h w) d λ v b y. drain_carried (fuel h.graph) v y (begin v b)
