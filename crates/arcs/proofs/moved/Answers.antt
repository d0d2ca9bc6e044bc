-- The numbers moved on.
use mathlib.Core.Path.{ap}
use lib.Ieee.{Float}
use Rattle.arcs.proofs.moved.Goals as goal

pub returns : goal.returns
returns c = ap (λ (x : Float). record { used = c.args.y.used; seq = c.args.y.seq; link = c.args.y.link; cutoff = x; queued = c.args.w.queued }) c.lower.ensures
