-- All else is as it was.
use mathlib.Core.Path.{ap}
use lib.Ieee.{Float}
use Rattle.decoder.proofs.with_margin.Goals as goal

pub returns : goal.returns
returns c = let d = c.args.d in ap (λ (x : Float). record { graph = d.graph; config = d.config; cap = d.cap; keeps = c.args.keeps; margin = x; side = d.side; frames = d.frames; seq = d.seq; used = d.used }) c.kept_margin.ensures
