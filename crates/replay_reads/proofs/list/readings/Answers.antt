-- `replay_reads::list::readings` meets its contract.
use native.Mathlib.Omega.{arith}
use Rattle.replay_reads.proofs.list.readings.Goals as goal

pub overflow_add-r : goal.overflow_add-r
overflow_add-r c = record { fits = omega (arith, c.requires.inside, c.well_formed.0.1) }

pub overflow_add-r-2 : goal.overflow_add-r-2
overflow_add-r-2 c = record { fits = omega (arith, c.requires.inside, c.well_formed.0.1) }

pub list_readings-list-requires : goal.list_readings-list-requires
list_readings-list-requires c = record { list_left = c.requires.list_left; lengths_within = (c.lengths_of.ensures.within, record { words_are = c.places-words.ensures; frames_are = c.places-frames.ensures; segments_are = c.places-segments.ensures; numbers_are = c.places-numbers.ensures; costs_are = c.places-costs.ensures }) }
