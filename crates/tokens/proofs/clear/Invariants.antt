-- The states of the blocks passed have empty places, and no place of the other table was touched.
use Rattle.std.proofs.Common.{◌≡◌, ◌*◌, length}
use Rattle.tokens.specs.Layout.{Cleared}
use Rattle.tokens.proofs.clear.Given as goal

abbrev pub invariant-loop-block : goal.invariant-loop-block
invariant-loop-block l = (length l.tokens ≡ length l.initial.tokens) × Cleared l.initial.tokens l.tokens l.side (l.block * 16)
