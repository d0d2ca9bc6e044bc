-- `silence_weighting::SilenceWeighting::get_delta_weights` meets its contract: it does what the plan says, and the plan is the definition's.
use Rattle.std.proofs.Common.{sym, ap, ◌∙◌, Ok, arith}
use Rattle.silence_weighting.proofs.Right.{write_fits, write_right}
use Rattle.silence_weighting.proofs.SilenceWeighting.get_delta_weights.Goals as goal

pub write_deltas-requires : goal.write_deltas-requires
write_deltas-requires c =
    let e = sym (rw c.min-room.ensures at c.plan.ensures) ∙ c.in_ok-plan.was ∙ ap (λ p. Ok p) c.in-Some.is in
    let f = write_fits _ _ _ _ _ _ _ _ e in
    record { sound = f.sound; weights_in_bounds = (omega (arith, f.room), omega (arith, f.room)) }

pub fill-requires : goal.fill-requires
fill-requires c =
    let e = sym (rw c.min-room.ensures at c.plan.ensures) ∙ c.in_ok-plan.was ∙ ap (λ p. Ok p) c.in-Some.is in
    (write_fits _ _ _ _ _ _ _ _ e).sound.status

pub overflow_cast-next : goal.overflow_cast-next
overflow_cast-next c =
    let e = sym (rw c.min-room.ensures at c.plan.ensures) ∙ c.in_ok-plan.was ∙ ap (λ p. Ok p) c.in-Some.is in
    omega (arith, (write_fits _ _ _ _ _ _ _ _ e).sound.few)

pub returns : goal.returns
returns c =
    let e = sym (rw c.min-room.ensures at c.plan.ensures) ∙ c.in_ok-plan.was ∙ ap (λ p. Ok p) c.in-Some.is in
    write_right _ _ _ _ _ _ _ c.in-Some.field-0 _ _ _ _ e c.fill.ensures c.write_deltas.ensures
