-- `replay_reads::read` meets its contract: what each read asks is among what is asked.
use Rattle.replay_reads.proofs.read.Goals as goal

pub alternatives-requires : goal.alternatives-requires
alternatives-requires c = record { inside = c.requires.inside; paths_left = c.requires.reads_left.paths }

pub returns-then-r-eq-ALTERNATIVES : goal.returns-then-r-eq-ALTERNATIVES
returns-then-r-eq-ALTERNATIVES c = λ p q. c.alternatives.ensures (p c.if-r-eq-ALTERNATIVES.true)

pub readings-requires : goal.readings-requires
readings-requires c = record { inside = c.requires.inside; list_left = c.requires.reads_left.readings }

pub returns-then-r-eq-READINGS : goal.returns-then-r-eq-READINGS
returns-then-r-eq-READINGS c = λ p q. let h = q c.if-r-eq-READINGS.true in c.readings.ensures h.0 h.1

pub best-requires : goal.best-requires
best-requires c = record { inside = c.requires.inside; finals_left = c.requires.reads_left.best }
