-- The cutoffs, the emptied table, the first look, and all states.
use mathlib.Core.Path.{refl}
use native.Mathlib.Omega.{arith}
use Rattle.std.proofs.lemmas.Result.{err_from_is_err_and}
use Rattle.emitting.specs.Whole.{costs, look_given, look_refused, states_given, states_done}
use Rattle.emitting.proofs.emitting.Goals as goal

pub overflow_sub-setting : goal.overflow_sub-setting
overflow_sub-setting c = let z = c.requires.0.ground.pass.side in omega arith

pub get_cutoff-cut-requires : goal.get_cutoff-cut-requires
get_cutoff-cut-requires c = let z = c.requires.0.places in (omega arith, z.tokens, z.sums, c.requires.1)

pub clear-requires : goal.clear-requires
clear-requires c = (c.requires.0.ground.pass.side, c.requires.0.places.tokens)

pub look-requires : goal.look-requires
look-requires c = look_given c.requires.0 _ _ (c.get_cutoff-cut.ensures _ (costs c.requires.0) c.requires.0.fine)

pub emit_states-requires : goal.emit_states-requires
emit_states-requires c = states_given c.requires.0 _ _ (c.get_cutoff-cut.ensures _ (costs c.requires.0) c.requires.0.fine) _ c.offset_of.ensures _ c.clear.ensures c.clear.auto.tokens _

pub returns-in_err-next : goal.returns-in_err-next
returns-in_err-next c = let p = err_from_is_err_and c.from_residual.result c.from_residual.ensures.1 in rw (p.1, p.2) (λ G. look_refused G _ _ (c.get_cutoff-cut.ensures _ (costs G) G.fine) _ refl _ c.clear.ensures c.clear.auto.tokens _ c.look.result (c.look.ensures (look_given G _ _ (c.get_cutoff-cut.ensures _ (costs G) G.fine))) c.in_err-next.was)

pub returns : goal.returns
returns c = λ G. states_done G _ _ (c.get_cutoff-cut.ensures _ (costs G) G.fine) _ c.offset_of.ensures _ c.clear.ensures c.clear.auto.tokens _ _ _ c.look.result _ (c.look.ensures (look_given G _ _ (c.get_cutoff-cut.ensures _ (costs G) G.fine))) c.in_ok-next.was c.emit_states.ensures
