-- Each field is read out, by whether the winner's phone goes on.
use Prim.Native.Nat.{◌-◌}
use mathlib.Core.Path.{sym, ap, ◌∙◌}
use mir.Syntax.{w32}
use mir.Val.{to_z, of_z}
use Rattle.model.specs.Ints.{back}
use Rattle.traceback.specs.Walk.{kept_step_on, kept_step_off}
use Rattle.traceback.proofs.kept_step.Goals as goal

pub returns-then-goes_on : goal.returns-then-goes_on
returns-then-goes_on c = let word = back c.kept_word_of.result c.kept_word_of.type_inv in
    kept_step_on c.args.records.now c.args.labels.now (c.args.r - 1) _ _ _ _ _ _ _ c.kept_of.ensures c.frame_of-frame.ensures (ap (λ z. to_z w32 (of_z w32 z)) word ∙ word ∙ c.kept_word_of.ensures) c.kept_starts_of.ensures c.winner_of-winner.ensures c.kept_phone_of.ensures (sym c.goes_on.ensures ∙ c.if-goes_on.true)

pub returns : goal.returns
returns c = kept_step_off c.args.records.now c.args.labels.now (c.args.r - 1) _ _ _ _ _ _ _ c.kept_of.ensures c.frame_of-frame.ensures (back c.kept_word_of.result c.kept_word_of.type_inv ∙ c.kept_word_of.ensures) c.kept_starts_of.ensures c.winner_of-winner.ensures c.kept_phone_of.ensures (sym c.goes_on.ensures ∙ c.if-goes_on.false)
