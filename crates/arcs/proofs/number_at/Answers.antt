-- What is not below zero is cast as it is.
use mathlib.Core.Path.{sym, ap, subst}
use native.Mathlib.Omega.{arith}
use lib.Dec.{T}
use lib.IntN.{ℤ, pos, nat_abs}
use lib.Signed.{non_neg}
use lib.ListN.{get_or}
use Rattle.model.specs.Ints.{back, cast_fits}
use Rattle.arcs.proofs.number_at.Goals as goal

pub overflow_cast-result : goal.overflow_cast-result
overflow_cast-result c = let z = get_or c.args.table.now c.args.i (pos 0) in
    let e = back z search in
    let f = cast_fits z (search) c.requires.1 in
    (subst (λ (y : ℤ). T (non_neg y)) (sym e) c.requires.1, record { fits = let k = ap nat_abs e in omega arith })

pub returns : goal.returns
returns c = let z = get_or c.args.table.now c.args.i (pos 0) in
    let e = ap nat_abs (back z search) in
    let f = cast_fits z (search) c.requires.1 in
    (e, omega arith)
