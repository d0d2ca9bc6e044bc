-- `decimals::read_decimal` meets its contract: the bytes are compared with the digits of the number that stands in them.
use mathlib.Core.Path.{◌≡◌, refl, sym, ap, ◌∙◌}
use native.Mathlib.Omega.{arith}
use lib.ListN.{length-take}
use Rattle.std.proofs.lemmas.Bool.Decides.{Decides-eqb}
use Rattle.std.proofs.lemmas.Slice.Eq.{slice_eq-Decides}
use Rattle.lists.specs.Tests.{never}
use Rattle.decimals.specs.declared.Numbers.{Numbers}
use Rattle.decimals.specs.Numbers.{numbers_in, none}
use Rattle.decimals.specs.Decimal.{decimal}
use Rattle.decimals.specs.RoundTrip.{decimal-length, decimal_read}
use Rattle.decimals.specs.Stored.{stored_front}
use Rattle.decimals.proofs.read_decimal.Goals as goal

pub write_decimal-end-requires : goal.write_decimal-end-requires
write_decimal-end-requires c = omega (arith, decimal-length c.numbers_in-number.result.third)

pub slice_bounds-digits-end : goal.slice_bounds-digits-end
slice_bounds-digits-end c = omega (arith, decimal-length c.numbers_in-number.result.third)

pub slice_bounds-eq-end : goal.slice_bounds-eq-end
slice_bounds-eq-end c = omega (arith, decimal-length c.numbers_in-number.result.third, length-take c.write_decimal-end.result c.write_decimal-end.new.out)

pub returns-then-eq : goal.returns-then-eq
returns-then-eq c =
    let n = c.numbers_in-number.result.third in
    let written = stored_front (decimal n) c.write_decimal-end.ensures (omega (arith, decimal-length n)) in
    let same = slice_eq-Decides Decides-eqb _ _ _ c.eq.ensures in
    (omega arith, sym written ∙ same.0 c.if-eq.true)

pub returns-else-eq : goal.returns-else-eq
returns-else-eq c n f d =
    let found = c.numbers_in-number in
    let e : found.result.third ≡ n = ap (λ (x : Numbers). x.third) (found.ensures ∙ ap numbers_in (sym d) ∙ decimal_read n none f refl) in
    let m = found.result.third in
    let written = stored_front (decimal m) c.write_decimal-end.ensures (omega (arith, decimal-length m)) in
    let same = slice_eq-Decides Decides-eqb _ _ _ c.eq.ensures in
    never (sym c.if-eq.false ∙ same.1 (written ∙ ap decimal e ∙ d))
