-- `listen::listen` is safe: the frames are given to a decoder as the fit leaves it.
use Rattle.std.specs.Prelude.{Ok}
use mathlib.Core.Path.{ap, ◌∙◌}
use Rattle.listen.specs.Held.{fit_hears}
use Rattle.listen.proofs.listen.Goals as goal

pub hear_frames-requires : goal.hear_frames-requires
hear_frames-requires c = fit_hears c.fit.ensures (c.in-Ok-Done.is ∙ ap Ok c.in-Ok-Done.field-0-is) c.fit.auto.queue
