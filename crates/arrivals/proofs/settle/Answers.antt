-- One case for each thing that an arc can meet.
use Rattle.std.proofs.Common.{refl}
use Rattle.arrivals.specs.Settled.{settled_cut, settled_fills, settled_beats, settled_loses}
use Rattle.arrivals.proofs.settle.Goals as goal

pub beat-requires : goal.beat-requires
beat-requires c = rw c.token_at-held.ensures c.requires.settle_asks

pub lose-requires : goal.lose-requires
lose-requires c = rw c.token_at-held-in-NotBetter.ensures c.requires.settle_asks

pub returns-in-CutOff : goal.returns-in-CutOff
returns-in-CutOff c = rw c.in-CutOff.is (settled_cut refl)

pub returns-in-Vacant : goal.returns-in-Vacant
returns-in-Vacant c = rw c.in-Vacant.is (settled_fills c.fill.ensures refl)

pub returns-in-Better : goal.returns-in-Better
returns-in-Better c = rw c.in-Better.is (settled_beats (rw c.token_at-held.ensures at c.beat.ensures))

pub returns-in-NotBetter : goal.returns-in-NotBetter
returns-in-NotBetter c = rw c.in-NotBetter.is (settled_loses (rw c.token_at-held-in-NotBetter.ensures at c.lose.ensures))
