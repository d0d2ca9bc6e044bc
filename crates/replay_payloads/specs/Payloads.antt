-- Numbers in a record's payload. Assumes nothing.
use Rattle.std.specs.Prelude.{ℕ, ◌+◌, ◌≤◌, Bool, cond, ◌&&◌, List, ltb, leb}
use Rattle.std.specs.Float.{binary32}
use Rattle.std.specs.Float.Ieee.{of_bits}
use Rattle.script.specs.declared.Record.{Record}
use Rattle.script.specs.Words.{word_count, word_at}
use Rattle.cutoff.specs.declared.Config.{Config}

-- a record's payload lies within the script
abbrev pub Inside : List ℕ → Record → Type 0
Inside bs r = r.start + r.count ≤ word_count bs

abbrev pub no_limit : ℕ
no_limit = 4294967295

abbrev pub most_records : ℕ
most_records = 1048576

-- the i-th number of a payload, or another where it is left off
unfoldable pub asked_for : List ℕ → Record → (i otherwise : ℕ) → ℕ
asked_for bs r i otherwise = cond (ltb i r.count) (word_at bs (r.start + i)) otherwise

-- a payload of so many words that starts with 0 or 1
unfoldable pub shaped_as : List ℕ → Record → (fewest most : ℕ) → Bool
shaped_as bs r fewest most = leb fewest r.count && leb r.count most && ltb (word_at bs r.start) 2

abbrev pub config_at : List ℕ → ℕ → Config
config_at bs at = record {
  beam = of_bits binary32 (word_at bs at);
  max_active = word_at bs (at + 1);
  min_active = word_at bs (at + 2);
  beam_delta = of_bits binary32 (word_at bs (at + 3));
}
