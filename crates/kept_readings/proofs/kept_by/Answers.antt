-- Field by field.
use Rattle.std.proofs.Common.{ℕ, ◌+◌, ◌%◌, ◌^◌, ap, ◌∙◌}
use Rattle.model.specs.Basics.{◌⊕◌, ◌⊖◌}
use Rattle.kept_readings.proofs.kept_by.Goals as goal

pub returns : goal.returns
returns c = λ t. record { hash = (c.wrapping_add_u64.ensures.value ∙ ap (λ (x : ℕ). (x + c.args.above.hash) % 2 ^ 64) c.wrapping_mul.ensures) t; len = c.args.b.len + c.args.above.len; state = c.args.c.state; entry = c.args.e; seq = c.args.c.seq; rank = ap (λ x. c.args.c.rank ⊕ c.args.b.cost ⊖ x) c.scaled.ensures t; cost = c.args.c.cost ⊕ c.args.b.cost }
