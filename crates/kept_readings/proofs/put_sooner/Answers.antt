-- Put or left.
use Rattle.std.proofs.Common.{sym, ap, ◌∙◌}
use Rattle.kept_readings.specs.Kept.{sooner_kept}
use Rattle.kept_readings.specs.Laws.{put_sooner, left_there}
use Rattle.kept_readings.proofs.put_sooner.Goals as goal

pub returns-then-kept_sooner : goal.returns-then-kept_sooner
returns-then-kept_sooner c = put_sooner c.args.k _ (ap (sooner_kept c.args.k) (sym c.kept_at.ensures) ∙ sym c.kept_sooner.ensures ∙ c.if-kept_sooner.true) c.put_kept.ensures

pub returns-else-kept_sooner : goal.returns-else-kept_sooner
returns-else-kept_sooner c = left_there c.args.k (ap (sooner_kept c.args.k) (sym c.kept_at.ensures) ∙ sym c.kept_sooner.ensures ∙ c.if-kept_sooner.false)
