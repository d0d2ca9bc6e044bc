-- Each field is read out.
use Prim.Native.Nat.{◌-◌}
use mathlib.Core.Path.{◌∙◌}
use Rattle.model.specs.Ints.{back}
use Rattle.traceback.specs.Walk.{own_step_is}
use Rattle.traceback.proofs.own_step.Goals as goal

pub returns : goal.returns
returns c = own_step_is c.args.records.now c.args.labels.now (c.args.r - 1) _ _ _ _ c.prev_of.ensures c.frame_of.ensures (back c.word_of.result c.word_of.type_inv ∙ c.word_of.ensures) c.starts_of.ensures
