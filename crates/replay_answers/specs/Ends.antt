-- Where the first paths of a list end. Assumes nothing.
use Rattle.std.specs.Prelude.{◌≤◌}
use Rattle.replay_answers.specs.declared.paths.Ends.{Ends}

-- within the places of alternatives
abbrev pub EndsWithin : Ends → Type 0
EndsWithin t = (t.words ≤ 16384) × (t.segments ≤ 16384)
