-- `refusal_lines::write_line` meets its contract: the line is composed beside, and copied where there is room.
use mathlib.Core.Path.{◌≡◌, subst}
use Prim.Native.Nat.{ℕ, ◌≤◌}
use native.Mathlib.Omega.{arith}
use mathlib.Core.List.{List}
use lib.ListN.{length, length-take}
use Rattle.decimals.specs.Stored.{Stored, stored_front, stored_start}
use Rattle.refusal_lines.specs.Line.{line_of}
use Rattle.refusal_lines.proofs.Laws.{line-length}
use Rattle.refusal_lines.proofs.write_line.Goals as goal

pub slice_bounds-line-end : goal.slice_bounds-line-end
slice_bounds-line-end c = omega (arith, line-length c.args.refusal)

pub slice_bounds-put-end : goal.slice_bounds-put-end
slice_bounds-put-end c = omega (arith, line-length c.args.refusal, length-take c.compose-end.result c.compose-end.new.out)

pub returns : goal.returns
returns c =
    let a = c.args in
    let line = line_of a.refusal in
    let made = c.compose-end in
    let put = c.put in
    let h : length line ≤ length a.out.now = omega arith in
    let n : made.result ≡ length line = omega arith in
    let same = stored_front line made.ensures (omega (arith, line-length a.refusal)) in
    let stored = subst (λ (part : List ℕ). Stored a.out.now 0 part put.result put.new.out) same put.ensures in
    (h, n, rw n (stored_start line stored h))
