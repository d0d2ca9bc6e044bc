-- The order of word lists, from their newest words to their oldest. Assumes nothing.
use Rattle.std.specs.Prelude.{◌≡◌, refl, ℕ, zero, suc, ◌-◌, ◌≤◌, ◌<◌, Bool, true, false, ◌&&◌, ◌||◌, ℤ, ltb, length, take, drop}
use Rattle.std.proofs.Common.{sym, ◌∙◌, ap, ap₂, arith, length-drop, length-take-le, lt-ltb, le-ltb}
use mathlib.Core.List.{List, [], ◌∷◌, reverse, reverse_aux}
use Rattle.std.proofs.lemmas.List.{length-reverse}
use Rattle.lists.specs.Tests.{case, lt_or_le}
use Rattle.model.specs.Basics.{eqℤ, ltℤ, nonzero}
use Rattle.model.specs.Ints.{eqℤ_refl, eqℤ_no}
use Rattle.model.specs.Readings.{words_lt}
use Rattle.routes.specs.declared.Word.{Word}
use Rattle.routes.specs.Back.{back_along, NextOn, Skipped}
use Rattle.routes.specs.Words.{Passed, at_end, at_word, at_some}

-- whether one comes before the other, of lists as long given newest first, where `newer` says it of what is newer
abbrev pub before_by : (xs ys : List ℤ) → (newer : Bool) → Bool
before_by [] ys newer = newer
before_by (x ∷ xs) [] newer = newer
before_by (x ∷ xs) (y ∷ ys) newer = before_by xs ys (ltℤ x y || (eqℤ x y && newer))

-- ---- the order of the lists turned around

before_is : (xs ys us vs : List ℤ) → length xs ≡ length ys → before_by xs ys (words_lt us vs) ≡ words_lt (reverse_aux xs us) (reverse_aux ys vs)
before_is [] [] us vs e = refl
before_is [] (y ∷ ys) us vs e = absurd (omega arith)
before_is (x ∷ xs) [] us vs e = absurd (omega arith)
before_is (x ∷ xs) (y ∷ ys) us vs e = before_is xs ys (x ∷ us) (y ∷ vs) (omega arith)

turn_rest : (k : ℕ) (xs t : List ℤ) → reverse_aux (drop k xs) (reverse_aux (take k xs) t) ≡ reverse_aux xs t
turn_rest zero xs t = refl
turn_rest (suc k) [] t = refl
turn_rest (suc k) (x ∷ xs) t = turn_rest k xs (x ∷ t)

none_first : (ys : List ℤ) → 0 < length ys → words_lt [] ys ≡ true
none_first [] l = absurd (omega arith)
none_first (y ∷ ys) l = refl

none_last : (xs : List ℤ) → words_lt xs [] ≡ false
none_last [] = refl
none_last (x ∷ xs) = refl

-- what the longer list has more
newer_is : (xs ys : List ℤ) (m n : ℕ) → m ≡ length xs → n ≡ length ys → ltb m n ≡ words_lt (reverse (take (m - n) xs)) (reverse (take (n - m) ys))
newer_is xs ys m n e f = case (lt_or_le m n) less more
  where
    less : m < n → ltb m n ≡ words_lt (reverse (take (m - n) xs)) (reverse (take (n - m) ys))
    less l =
        let z : m - n ≡ 0 = omega arith in
        let y = length-take-le (n - m) ys (omega arith) in
        let v = length-reverse (take (n - m) ys) in
        lt-ltb m n l ∙ sym (ap (λ (k : ℕ). words_lt (reverse (take k xs)) (reverse (take (n - m) ys))) z ∙ none_first (reverse (take (n - m) ys)) (omega arith))

    more : n ≤ m → ltb m n ≡ words_lt (reverse (take (m - n) xs)) (reverse (take (n - m) ys))
    more l =
        let z : n - m ≡ 0 = omega arith in
        le-ltb m n l ∙ sym (ap (λ (k : ℕ). words_lt (reverse (take (m - n) xs)) (reverse (take k ys))) z ∙ none_last (reverse (take (m - n) xs)))

pub whole_before : (xs ys : List ℤ) (m n : ℕ) → m ≡ length xs → n ≡ length ys → before_by (drop (m - n) xs) (drop (n - m) ys) (ltb m n) ≡ words_lt (reverse xs) (reverse ys)
whole_before xs ys m n e f =
    let a = length-drop (m - n) xs in
    let b = length-drop (n - m) ys in
    ap (before_by (drop (m - n) xs) (drop (n - m) ys)) (newer_is xs ys m n e f)
    ∙ before_is (drop (m - n) xs) (drop (n - m) ys) (reverse (take (m - n) xs)) (reverse (take (n - m) ys)) (omega arith)
    ∙ ap₂ words_lt (turn_rest (m - n) xs []) (turn_rest (n - m) ys [])

-- ---- as the code goes

module _ (x y : ℤ) (behind : Bool) where
  pub before_less : ltℤ x y ≡ true → true ≡ (ltℤ x y || (eqℤ x y && behind))
  before_less e = rw e

  pub before_level : ltℤ x y ≡ false → x ≡ y → behind ≡ (ltℤ x y || (eqℤ x y && behind))
  before_level e q = rw (e, ap (eqℤ x) (sym q) ∙ eqℤ_refl x)

  pub before_not : ltℤ x y ≡ false → (x ≡ y → ⊥) → false ≡ (ltℤ x y || (eqℤ x y && behind))
  before_not e d = rw (e, eqℤ_no x y d)

module _ {rs : List ℕ} {ls : List ℤ} {ra rb : List ℕ} {p q : ℕ} where
  -- what the two walks ask
  pub skipped_alike : {a b m n : ℕ} → m ≡ length (back_along rs ls ra a) → n ≡ length (back_along rs ls rb b) → Skipped rs ls ra a (m - n) p → Skipped rs ls rb b (n - m) q → length (back_along rs ls ra p) ≡ length (back_along rs ls rb q)
  skipped_alike {a} {b} {m} {n} e f i j =
      let x = length-drop (m - n) (back_along rs ls ra a) in
      let y = length-drop (n - m) (back_along rs ls rb b) in
      let u = ap length i.rest in
      let v = ap length j.rest in
      omega arith

  pub skipped_before : {a b m n : ℕ} {r : Bool} → m ≡ length (back_along rs ls ra a) → n ≡ length (back_along rs ls rb b) → Skipped rs ls ra a (m - n) p → Skipped rs ls rb b (n - m) q
      → r ≡ before_by (back_along rs ls ra p) (back_along rs ls rb q) (ltb m n) → r ≡ words_lt (reverse (back_along rs ls ra a)) (reverse (back_along rs ls rb b))
  skipped_before {a} {b} {m} {n} e f i j t =
      t ∙ ap₂ (λ (xs ys : List ℤ). before_by xs ys (ltb m n)) i.rest j.rest ∙ whole_before (back_along rs ls ra a) (back_along rs ls rb b) m n e f

  module _ {x y : Word} (n : NextOn rs ls ra p x) (m : NextOn rs ls rb q y) where
    pub before_ended : nonzero x.word ≡ false → (newer : Bool) → newer ≡ before_by (back_along rs ls ra p) (back_along rs ls rb q) newer
    before_ended z newer = rw (at_end n z)

    module _ (z : nonzero x.word ≡ true) (e : length (back_along rs ls ra p) ≡ length (back_along rs ls rb q)) where
      pub other_passed : Passed rs ls rb q y
      other_passed = at_some m (let v = ap length (at_word n z).is in omega arith)

      pub before_long : length (back_along rs ls ra x.next) ≡ length (back_along rs ls rb y.next)
      before_long =
          let v = ap length (at_word n z).is in
          let u = ap length other_passed.is in
          omega arith

      pub before_next : (newer : Bool) {r : Bool} → r ≡ (ltℤ x.word y.word || (eqℤ x.word y.word && newer)) → before_by (back_along rs ls ra p) (back_along rs ls rb q) newer ≡ before_by (back_along rs ls ra x.next) (back_along rs ls rb y.next) r
      before_next newer t = ap₂ (λ (us vs : List ℤ). before_by us vs newer) (at_word n z).is other_passed.is ∙ ap (before_by (back_along rs ls ra x.next) (back_along rs ls rb y.next)) (sym t)
