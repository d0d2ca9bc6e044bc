-- `replay_reads::alternatives::alternatives` meets its contract: what is lent lies within the places.
use native.Mathlib.Omega.{arith}
use Rattle.replay_reads.proofs.alternatives.alternatives.Goals as goal

pub overflow_add-r : goal.overflow_add-r
overflow_add-r c = record { fits = omega (arith, c.requires.inside, c.well_formed.0.1) }

pub overflow_mul-segments : goal.overflow_mul-segments
overflow_mul-segments c = record { fits = omega (arith, c.min-m.ensures) }

pub overflow_mul-list : goal.overflow_mul-list
overflow_mul-list c = record { fits = omega (arith, c.min-e.ensures) }
