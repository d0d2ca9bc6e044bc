-- `fst::check_label` meets its contract: each of its tests is one of the definition's, in the definition's order.
use borrow.Author.Tests.{le-leb, lt-leb}
use mathlib.Core.Path.{◌≡◌, sym, subst}
use mathlib.Core.Bool.{Bool, true, false}
use mathlib.Core.List.{List}
use mathlib.Core.Option.{Option, none}
use Prim.Native.Nat.{ℕ, ◌<◌, ◌≤◌, ◌^◌}
use native.Mathlib.Omega.{arith}
use lib.IntN.{ℤ, pos, nat_abs}
use lib.Signed.{mag, lt_z}
use lib.ListN.{length, get_or}
use mir.Syntax.{w32}
use mir.Val.{of_z, to_z, SFits}
use Rattle.model.specs.Basics.{ltℤ, nonzero, nowhere, Refusal}
use Rattle.model.specs.Graph.{refuse_at}
use Rattle.fst.proofs.Labels.{label_fault, bad_label, negative, epsilon, past_pdfs, past_phones, pdf_negative, pdf_over, by_phone}
use Rattle.model.specs.Ints.{back, nonzero_yes, nonzero_no, as_defined, tested, at_least, less}
use Rattle.fst.proofs.check_label.Goals as goal

module _ (p h : List ℤ) (n : ℕ) (z : ℤ) (f : SFits w32 z) where
  -- the label as its bits are read
  abbrev label : ℤ
  label = to_z w32 (of_z w32 z)

  abbrev Finds : Option Refusal → Type 0
  Finds o = o ≡ label_fault p h n z

  answers : (o : Option Refusal) → o ≡ label_fault p h n label → Finds o
  answers o = subst (λ (y : ℤ). o ≡ label_fault p h n y) (back z f.sfits)

  at_negative : lt_z label (pos 0) ≡ true → Finds bad_label
  at_negative a = answers _ (negative _ _ _ _ (as_defined label (pos 0) a))

  module _ (natural : lt_z label (pos 0) ≡ false) where
    at_epsilon : of_z w32 z ≡ 0 → Finds none
    at_epsilon m =
        answers _ (epsilon _ _ _ _ (as_defined label (pos 0) natural) (subst (λ (y : ℤ). nonzero y ≡ false) (sym (back z f.sfits)) (nonzero_no z f m)))

    module _ (m : of_z w32 z ≡ 0 → ⊥) where
      emitting : nonzero label ≡ true
      emitting = subst (λ (y : ℤ). nonzero y ≡ true) (sym (back z f.sfits)) (nonzero_yes z m)

      no_pdf : length p ≤ nat_abs label → Finds bad_label
      no_pdf b = answers _ (past_pdfs _ _ _ _ (as_defined label (pos 0) natural) emitting (le-leb _ _ b))

      module _ (in_pdfs : nat_abs label < length p) where
        no_phone : length h ≤ nat_abs label → Finds bad_label
        no_phone b = answers _ (past_phones _ _ _ _ (as_defined label (pos 0) natural) emitting (lt-leb _ _ in_pdfs) (le-leb _ _ b))

        module _ (in_phones : nat_abs label < length h) where
          -- the pdf, an element of its table
          abbrev pdf : ℤ
          pdf = get_or p (nat_abs label) (pos 0)

          abbrev phone : ℤ
          phone = get_or h (nat_abs label) (pos 0)

          module _ (fits : mag pdf < 2 ^ 31) where
            negative_pdf : lt_z (to_z w32 (of_z w32 pdf)) (pos 0) ≡ true → Finds bad_label
            negative_pdf e =
                answers _ (pdf_negative _ _ _ _ (as_defined label (pos 0) natural) emitting (lt-leb _ _ in_pdfs) (lt-leb _ _ in_phones) (tested pdf 0 fits e))

            module _ (pdf_natural : lt_z (to_z w32 (of_z w32 pdf)) (pos 0) ≡ false) where
              large_pdf : n ≤ nat_abs (to_z w32 (of_z w32 pdf)) → Finds bad_label
              large_pdf b =
                  let e = subst (λ (y : ℤ). ltℤ y (pos n) ≡ false) (back pdf fits) (at_least (to_z w32 (of_z w32 pdf)) n pdf_natural b) in
                  answers _ (pdf_over _ _ _ _ (as_defined label (pos 0) natural) emitting (lt-leb _ _ in_pdfs) (lt-leb _ _ in_phones) (tested pdf 0 fits pdf_natural) e)

              -- the last test, of the phone, decides
              last : nat_abs (to_z w32 (of_z w32 pdf)) < n → mag phone < 2 ^ 31 → (t : Bool) → lt_z (to_z w32 (of_z w32 phone)) (pos 1) ≡ t → Finds (refuse_at nowhere 4 t)
              last b l t e =
                  let few = subst (λ (y : ℤ). ltℤ y (pos n) ≡ true) (back pdf fits) (less (to_z w32 (of_z w32 pdf)) n b) in
                  answers _ (by_phone _ _ _ _ (as_defined label (pos 0) natural) emitting (lt-leb _ _ in_pdfs) (lt-leb _ _ in_phones) (tested pdf 0 fits pdf_natural) few t (tested phone 1 l e))

pub returns-then-ilabel-lt0 : goal.returns-then-ilabel-lt0
returns-then-ilabel-lt0 c = at_negative _ _ _ _ c.ranges.ilabel c.if-ilabel-lt0.true

pub returns-then-ilabel-eq0 : goal.returns-then-ilabel-eq0
returns-then-ilabel-eq0 c = at_epsilon _ _ _ _ c.ranges.ilabel c.if-ilabel-lt0.false c.if-ilabel-eq0.true

pub returns-then-tid2pdf-i : goal.returns-then-tid2pdf-i
returns-then-tid2pdf-i c = no_pdf _ _ _ _ c.ranges.ilabel c.if-ilabel-lt0.false c.if-ilabel-eq0.false c.if-tid2pdf-i.true

pub returns-then-tid2phone-i : goal.returns-then-tid2phone-i
returns-then-tid2phone-i c =
    no_phone _ _ _ _ c.ranges.ilabel c.if-ilabel-lt0.false c.if-ilabel-eq0.false c.if-tid2pdf-i.false c.if-tid2phone-i.true

pub returns-then-pdf-lt0 : goal.returns-then-pdf-lt0
returns-then-pdf-lt0 c =
    negative_pdf _ _ _ _ c.ranges.ilabel c.if-ilabel-lt0.false c.if-ilabel-eq0.false c.if-tid2pdf-i.false c.if-tid2phone-i.false (omega arith) c.if-pdf-lt0.true

pub returns-then-pdfs-pdf : goal.returns-then-pdfs-pdf
returns-then-pdfs-pdf c =
    large_pdf _ _ _ _ c.ranges.ilabel c.if-ilabel-lt0.false c.if-ilabel-eq0.false c.if-tid2pdf-i.false c.if-tid2phone-i.false (omega arith) c.if-pdf-lt0.false c.if-pdfs-pdf.true

pub returns-then-tid2phone-i-lt1 : goal.returns-then-tid2phone-i-lt1
returns-then-tid2phone-i-lt1 c =
    last _ _ _ _ c.ranges.ilabel c.if-ilabel-lt0.false c.if-ilabel-eq0.false c.if-tid2pdf-i.false c.if-tid2phone-i.false (omega arith) c.if-pdf-lt0.false c.if-pdfs-pdf.false (omega arith) true c.if-tid2phone-i-lt1.true

pub returns : goal.returns
returns c =
    last _ _ _ _ c.ranges.ilabel c.if-ilabel-lt0.false c.if-ilabel-eq0.false c.if-tid2pdf-i.false c.if-tid2phone-i.false (omega arith) c.if-pdf-lt0.false c.if-pdfs-pdf.false (omega arith) false c.if-tid2phone-i-lt1.false
