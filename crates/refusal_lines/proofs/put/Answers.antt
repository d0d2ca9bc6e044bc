-- `refusal_lines::put` meets its contract: after i turns the first i bytes are in place.
use mathlib.Core.Path.{◌≡◌, refl, sym, ap, ◌∙◌}
use Prim.Native.Nat.{◌<◌}
use native.Mathlib.Omega.{arith}
use native.Mathlib.Numerals.{add-one}
use mathlib.Core.List.{[], ◌∷◌}
use lib.ListN.{length, take, get_or}
use lib.Seq.{length-sets, take-suc, take-length, length-take-le}
use Rattle.lists.specs.Parts.{sets_append}
use Rattle.refusal_lines.proofs.put.Goals as goal

pub loop-i-init : goal.loop-i-init
loop-i-init c = refl

pub bounds-out-at : goal.bounds-out-at
bounds-out-at c = omega (arith, simp length-sets at (ap length c.loop-i.invariant))

pub loop-i-preserved : goal.loop-i-preserved
loop-i-preserved c =
    let a = c.args in
    let part = a.part.now in
    let l = c.loop-i in
    let h : l.i < length part = omega arith in
    let e : length (take l.i part) ≡ l.i = length-take-le l.i part (omega arith) in
    rw (add-one, take-suc part l.i 0, l.invariant) (rw e at (sym (sets_append a.out.now a.at (take l.i part) (get_or part l.i 0 ∷ []))))

pub shape_of-out : goal.shape_of-out
shape_of-out c = ap length c.loop-i.invariant ∙ simp length-sets

pub returns : goal.returns
returns c =
    let part = c.args.part.now in
    let l = c.loop-i in
    let e : l.i ≡ length part = omega arith in
    record { behind = omega arith; written = rw (e, take-length) at l.invariant }
