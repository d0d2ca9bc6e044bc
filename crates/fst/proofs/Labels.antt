-- What refuses an input label, test by test. Assumes nothing.
use mathlib.Core.Path.{◌≡◌}
use Prim.Native.Nat.{ℕ}
use mathlib.Core.Bool.{Bool, true, false}
use mathlib.Core.List.{List, []}
use mathlib.Core.Option.{Option, none, some}
use lib.IntN.{ℤ, pos, nat_abs}
use lib.Dec.{leb}
use lib.ListN.{length, get_or}
use Rattle.model.specs.Basics.{0f, ltℤ, nonzero, nowhere, Refusal}
use Rattle.model.specs.Graph.{label_wrong, refuse_at}
use Rattle.fst.specs.Answer.{tables_of, arc_of, check_label}

abbrev pub label_fault : (p h : List ℤ) (n : ℕ) (z : ℤ) → Option Refusal
label_fault p h n z = check_label (tables_of [] p h n) (arc_of z 0f 0)

-- an input label that is bad
abbrev pub bad_label : Option Refusal
bad_label = some (record { number = 3; place = nowhere })

module _ (p h : List ℤ) (n : ℕ) (z : ℤ) where
  pub negative : ltℤ z (pos 0) ≡ true → bad_label ≡ label_fault p h n z
  unfolding label_wrong
  negative a = simp a

  module _ (a : ltℤ z (pos 0) ≡ false) where
    pub epsilon : nonzero z ≡ false → none ≡ label_fault p h n z
    unfolding label_wrong
    epsilon m = simp (a, m)

    module _ (m : nonzero z ≡ true) where
      pub past_pdfs : leb (length p) (nat_abs z) ≡ true → bad_label ≡ label_fault p h n z
      unfolding label_wrong
      past_pdfs b = simp (a, m, b)

      module _ (b : leb (length p) (nat_abs z) ≡ false) where
        pub past_phones : leb (length h) (nat_abs z) ≡ true → bad_label ≡ label_fault p h n z
        unfolding label_wrong
        past_phones c = simp (a, m, b, c)

        module _ (c : leb (length h) (nat_abs z) ≡ false) where
          pub pdf_negative : ltℤ (get_or p (nat_abs z) (pos 0)) (pos 0) ≡ true → bad_label ≡ label_fault p h n z
          unfolding label_wrong
          pdf_negative d = simp (a, m, b, c, d)

          module _ (d : ltℤ (get_or p (nat_abs z) (pos 0)) (pos 0) ≡ false) where
            pub pdf_over : ltℤ (get_or p (nat_abs z) (pos 0)) (pos n) ≡ false → bad_label ≡ label_fault p h n z
            unfolding label_wrong
            pdf_over e = simp (a, m, b, c, d, e)

            pub by_phone : ltℤ (get_or p (nat_abs z) (pos 0)) (pos n) ≡ true → (t : Bool) → ltℤ (get_or h (nat_abs z) (pos 0)) (pos 1) ≡ t → refuse_at nowhere 4 t ≡ label_fault p h n z
            unfolding label_wrong
            by_phone e true f = simp (a, m, b, c, d, e, f)
            by_phone e false f = simp (a, m, b, c, d, e, f)
