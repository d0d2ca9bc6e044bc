-- The blocks passed have no active state.
use Rattle.std.proofs.Common.{◌≡◌, ℕ, ◌≤◌, ◌<◌}
use Rattle.tokens.specs.Layout.{place_in, active_in}
use Rattle.tokens.proofs.next_block.Given as goal

abbrev pub invariant-loop-block : goal.invariant-loop-block
invariant-loop-block l = (i : ℕ) → l.from ≤ i → i < l.block → active_in l.tokens (place_in l.side i) ≡ 0
