-- The place's bit among the marks of its block.
use mathlib.Core.Path.{ap, ◌∙◌}
use Prim.Native.Nat.{ℕ, ◌/◌, ◌%◌}
use lib.Dec.{ltb}
use Rattle.tokens.specs.Layout.{bit_at}
use Rattle.tokens.specs.Held.{held_test}
use Rattle.tokens.proofs.has_token.Goals as goal

pub returns : goal.returns
returns c = let a = c.args in c.has_bit.ensures ∙ ap (λ (n : ℕ). ltb 0 (bit_at n (a.place / 2 % 16))) c.active_in.ensures ∙ held_test a.tokens.now a.place
