-- A token above the cutoff is passed over; the others' arcs arrive.
use native.Mathlib.Omega.{arith}
use Rattle.emitting.specs.Emit.{state_given, state_skips, state_emits}
use Rattle.emitting.proofs.emit_state.Goals as goal

pub overflow_sub-setting : goal.overflow_sub-setting
overflow_sub-setting c = let z = c.requires.0.ground.pass.side in omega arith

pub token_at-source-requires : goal.token_at-source-requires
token_at-source-requires c = let z = c.requires.0.at.stood.places in
    let l = c.requires.1.0 in
    (omega arith, let k = z.tokens in omega arith, let k = z.sums in omega arith)

pub returns-then-cut-source : goal.returns-then-cut-source
returns-then-cut-source c = λ G t e. state_skips G _ c.requires.1 _ c.token_at-source.ensures _ t e c.if-cut-source.true

pub arrive_state-requires : goal.arrive_state-requires
arrive_state-requires c = state_given c.requires.0 _ c.requires.1 _ c.token_at-source.ensures

pub returns : goal.returns
returns c = λ G t e. state_emits G _ c.requires.1 _ c.token_at-source.ensures _ t e _ _ _ c.if-cut-source.false c.arrive_state.ensures
