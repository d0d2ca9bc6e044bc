-- The words along a route, one at a time. Assumes nothing.
use Rattle.std.specs.Prelude.{◌≡◌, Bool, cond, ℤ, pos, length, drop}
use Rattle.std.proofs.Math.Path.{refl, ap, ap₂}
use Rattle.std.proofs.Common.{sym, ◌∙◌, arith, length-drop, drop-drop}
use Prim.Native.Nat.{ℕ, zero, suc, ◌+◌, ◌-◌, ◌≤◌, ◌<◌}
use Rattle.std.proofs.Math.Bool.{true, false}
use mathlib.Core.List.{List, [], ◌∷◌, reverse, reverse_aux}
use Rattle.std.proofs.lemmas.List.{length-reverse}
use Rattle.lists.specs.Tests.{never}
use Rattle.model.specs.Basics.{nonzero}
use Rattle.model.specs.Ints.{eqℤ_no, eqℤ_refl}
use Rattle.model.specs.Path.{with_word, same_words}
use Rattle.traceback.specs.declared.Step.{Step}
use Rattle.traceback.specs.Trail.{Trail, no_trail}
use Rattle.traceback.specs.Chain.{own_step, kept_step, takes_kept, step_of, tell, chain_trail, trail_from, Walkable}
use Rattle.traceback.specs.Walk.{step_low}
use Rattle.routes.specs.declared.Word.{Word}
use Rattle.routes.specs.Back.{back_by, back_along, NextOn, ended, a_word, Skipped}

module _ (rs : List ℕ) (ls : List ℤ) (route : List ℕ) where
  -- the number of frames does not count
  step_word : (n k : ℕ) → (step_of rs ls route n k).word ≡ (step_of rs ls route 0 k).word
  unfolding step_of kept_step own_step
  step_word n k = go (takes_kept rs ls route k)
    where
      go : (b : Bool) → (cond b (kept_step rs ls n k) (own_step rs ls k)).word ≡ (cond b (kept_step rs ls 0 k) (own_step rs ls k)).word
      go true = refl
      go false = refl

  step_next : (n k : ℕ) → (step_of rs ls route n k).next ≡ (step_of rs ls route 0 k).next
  unfolding step_of kept_step own_step
  step_next n k = go (takes_kept rs ls route k)
    where
      go : (b : Bool) → (cond b (kept_step rs ls n k) (own_step rs ls k)).next ≡ (cond b (kept_step rs ls 0 k) (own_step rs ls k)).next
      go true = refl
      go false = refl

  -- ---- a trace has them oldest first

  turned : (w : ℤ) (ws t : List ℤ) → reverse_aux ws (with_word w t) ≡ reverse_aux (with_word w ws) t
  turned w ws t = go (nonzero w)
    where
      go : (b : Bool) → reverse_aux ws (cond b (w ∷ t) t) ≡ reverse_aux (cond b (w ∷ ws) ws) t
      go true = refl
      go false = refl

  chain_back : (n f r : ℕ) (t : Trail) → (chain_trail rs ls route n f r t).words ≡ reverse_aux (back_by rs ls route f r) t.words
  unfolding chain_trail back_by tell
  chain_back n zero r t = refl
  chain_back n (suc f) zero t = refl
  chain_back n (suc f) (suc k) t =
      let s = step_of rs ls route n k in
      chain_back n f s.next (tell n s t)
      ∙ ap₂ (λ (x : ℕ) (w : ℤ). reverse_aux (back_by rs ls route f x) (with_word w t.words)) (step_next n k) (step_word n k)
      ∙ turned (step_of rs ls route 0 k).word (back_by rs ls route f (step_of rs ls route 0 k).next) t.words

  pub back_trail : (n r : ℕ) → reverse (back_along rs ls route r) ≡ (trail_from rs ls route n r no_trail).words
  back_trail n r = sym (chain_back n r r no_trail)

  -- so a trace has as many
  pub back_many : (n r : ℕ) → length (trail_from rs ls route n r no_trail).words ≡ length (back_along rs ls route r)
  back_many n r = ap length (sym (back_trail n r)) ∙ length-reverse (back_along rs ls route r)

  pub back_none : back_along rs ls route 0 ≡ []
  unfolding back_by
  back_none = refl

module _ {rs : List ℕ} {ls : List ℤ} (route : List ℕ) {used : ℕ} (w : Walkable rs ls used) where
  -- any two fuels that suffice
  enough : (f g r : ℕ) → r ≤ f → r ≤ g → r ≤ used → back_by rs ls route f r ≡ back_by rs ls route g r
  unfolding back_by
  enough zero zero r a b c = refl
  enough zero (suc g) zero a b c = refl
  enough (suc f) zero zero a b c = refl
  enough (suc f) (suc g) zero a b c = refl
  enough zero (suc g) (suc k) a b c = absurd (omega arith)
  enough (suc f) zero (suc k) a b c = absurd (omega arith)
  enough (suc f) (suc g) (suc k) a b c =
      let s = step_of rs ls route 0 k in
      let l = step_low rs ls route 0 used w k (omega arith) in
      ap (with_word s.word) (enough f g s.next (omega arith) (omega arith) (omega arith))

  -- record number k + 1
  pub back_next : (k : ℕ) → k < used → back_along rs ls route (suc k) ≡ with_word (step_of rs ls route 0 k).word (back_along rs ls route (step_of rs ls route 0 k).next)
  unfolding back_by
  back_next k l =
      let s = step_of rs ls route 0 k in
      let z = step_low rs ls route 0 used w k l in
      ap (with_word s.word) (enough k s.next s.next z (omega arith) (omega arith))

  -- as the code reads it
  module _ (r : ℕ) (s : Step) (d : r ≡ 0 → ⊥) (l : r ≤ used) (e : s ≡ step_of rs ls route 0 (r - 1)) where
    pub next_low : s.next < r
    next_low =
        let z = step_low rs ls route 0 used w (r - 1) (omega arith) in
        let y : s.next ≡ (step_of rs ls route 0 (r - 1)).next = ap (λ (x : Step). x.next) e in
        omega arith

    read : back_along rs ls route r ≡ with_word s.word (back_along rs ls route s.next)
    read =
        let z : r ≡ suc (r - 1) = omega arith in
        ap (back_along rs ls route) z ∙ back_next (r - 1) (omega arith) ∙ ap (λ (x : Step). with_word x.word (back_along rs ls route x.next)) (sym e)

    pub back_word : nonzero s.word ≡ true → back_along rs ls route r ≡ s.word ∷ back_along rs ls route s.next
    back_word y = read ∙ ap (λ (b : Bool). cond b (s.word ∷ back_along rs ls route s.next) (back_along rs ls route s.next)) y

    pub back_quiet : nonzero s.word ≡ false → back_along rs ls route r ≡ back_along rs ls route s.next
    back_quiet y = read ∙ ap (λ (b : Bool). cond b (s.word ∷ back_along rs ls route s.next) (back_along rs ls route s.next)) y

-- ---- one word of a history

no_word : {w : ℤ} → w ≡ pos 0 → nonzero w ≡ false
no_word e = ap nonzero e

-- there is a word, and those from `next` on are behind it
pub record Passed (rs : List ℕ) (ls : List ℤ) (route : List ℕ) (p : ℕ) (x : Word) : Type 0 where
  pub low : x.next < p
  pub is : back_along rs ls route p ≡ x.word ∷ back_along rs ls route x.next

module _ {rs : List ℕ} {ls : List ℤ} {route : List ℕ} {p : ℕ} {x : Word} where
  pub at_end : NextOn rs ls route p x → nonzero x.word ≡ false → back_along rs ls route p ≡ []
  at_end (ended a b) e = b
  at_end (a_word a l b) e = never (sym e ∙ a)

  pub at_word : NextOn rs ls route p x → nonzero x.word ≡ true → Passed rs ls route p x
  at_word (ended a b) e = never (sym (no_word a) ∙ e)
  at_word (a_word a l b) e = record { low = l; is = b }

  pub at_some : NextOn rs ls route p x → 0 < length (back_along rs ls route p) → Passed rs ls route p x
  at_some (ended a b) l = absurd (let z = ap length b in omega arith)
  at_some (a_word a l b) h = record { low = l; is = b }

-- ---- two histories

module _ {rs : List ℕ} {ls : List ℤ} {ra rb : List ℕ} {p q : ℕ} {x y : Word} (n : NextOn rs ls ra p x) (m : NextOn rs ls rb q y) where
  abbrev xs : List ℤ
  xs = back_along rs ls ra p

  abbrev ys : List ℤ
  ys = back_along rs ls rb q

  pub same_apart : (x.word ≡ y.word → ⊥) → false ≡ same_words xs ys
  same_apart d = go n m
    where
      go : NextOn rs ls ra p x → NextOn rs ls rb q y → false ≡ same_words xs ys
      go (ended a b) (ended a' b') = absurd (d (a ∙ sym a'))
      go (ended a b) (a_word a' l' b') = rw (b, b')
      go (a_word a l b) (ended a' b') = rw (b, b')
      go (a_word a l b) (a_word a' l' b') = rw (b, b', eqℤ_no x.word y.word d)

  pub same_ended : x.word ≡ y.word → nonzero x.word ≡ false → true ≡ same_words xs ys
  same_ended e z = rw (at_end n z, at_end m (ap nonzero (sym e) ∙ z))

  pub same_next : x.word ≡ y.word → nonzero x.word ≡ true → same_words xs ys ≡ same_words (back_along rs ls ra x.next) (back_along rs ls rb y.next)
  same_next e z = rw ((at_word n z).is, (at_word m (ap nonzero (sym e) ∙ z)).is, e, eqℤ_refl y.word)

-- ---- the newest passed over

module _ {rs : List ℕ} {ls : List ℤ} {route : List ℕ} {link : ℕ} where
  pub skipped_none : Skipped rs ls route link 0 link
  skipped_none = record { low = omega arith; rest = refl }

  skipped_low : {k r : ℕ} {x : Word} → Skipped rs ls route link k r → k < length (back_along rs ls route link) → NextOn rs ls route r x → Passed rs ls route r x
  skipped_low {k} {r} i l n = at_some n (let z = length-drop k (back_along rs ls route link) in let y = ap length i.rest in omega arith)

  pub skipped_next : {k r : ℕ} {x : Word} → Skipped rs ls route link k r → k < length (back_along rs ls route link) → NextOn rs ls route r x → Skipped rs ls route link (k + 1) x.next
  skipped_next {k} {r} {x} i l n =
      let z = skipped_low i l n in
      record {
        low = let a = z.low in let b = i.low in omega arith;
        rest = ap (drop 1) (sym z.is ∙ i.rest) ∙ drop-drop 1 k (back_along rs ls route link);
      }
