-- `decimals::write_decimal` meets its contract: the digits but the last, then the last. The measure is the number.
use mathlib.Core.Path.{refl}
use Prim.Native.Nat.{◌+◌, ◌/◌, ◌%◌, ◌^◌, ◌<◌, ◌≤◌}
use native.Mathlib.Omega.{arith}
use mathlib.Core.List.{[], ◌∷◌}
use Rattle.decimals.specs.Decimal.{decimal}
use Rattle.decimals.specs.RoundTrip.{decimal_one, decimal_more, length_one}
use Rattle.decimals.specs.Stored.{stored_more}
use Rattle.decimals.proofs.+write_decimal.Goals as goal

pub returns-then-number-lt10 : goal.returns-then-number-lt10
returns-then-number-lt10 t c =
    let n = c.args.number in
    let h : n < 10 = omega arith in
    record { behind = omega (arith, length_one n h); written = rw (decimal_one n h) }

pub returns : goal.returns
returns t c =
    let n = c.args.number in
    let h : 10 ≤ n = omega arith in
    let f : n < 2 ^ 32 = omega arith in
    rw (decimal_more n h f) (stored_more (decimal (n / 10)) ((48 + n % 10) ∷ []) c.write_decimal-last.ensures (record { behind = refl; written = refl }))
