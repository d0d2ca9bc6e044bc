-- The state's bit among the marks of its block.
use mathlib.Core.Path.{ap, ◌∙◌}
use Prim.Native.Nat.{ℕ, ◌%◌}
use lib.Dec.{ltb}
use Rattle.tokens.specs.Layout.{bit_at}
use Rattle.tokens.proofs.Blocks.{requeued_test}
use Rattle.tokens.proofs.was_requeued.Goals as goal

pub returns : goal.returns
returns c = let a = c.args in c.has_bit.ensures ∙ ap (λ (n : ℕ). ltb 0 (bit_at n (a.s % 16))) c.requeued_in.ensures ∙ requeued_test a.tokens.now a.side c.requires.0 a.s
