-- Only the nonemitting pass pushes.
use mathlib.Core.Path.{refl}
use Rattle.arcs.specs.Finish.{winner_stays, winner_pushed}
use Rattle.arcs.proofs.push_winner.Goals as goal

pub returns-in-Emitting : goal.returns-in-Emitting
returns-in-Emitting c = winner_stays c.in-Emitting.is refl

pub returns-in-Nonemitting : goal.returns-in-Nonemitting
returns-in-Nonemitting c = winner_pushed c.in-Nonemitting.is c.push.ensures
