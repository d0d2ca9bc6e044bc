-- How much of the program's places is lent for what a payload asks. Assumes nothing.
use Rattle.std.specs.Prelude.{◌≡◌, ℕ, ◌+◌, ◌*◌, ◌≤◌, min, Bool, false, not, cond, ◌&&◌, ◌||◌, List, leb, eqb}
use Rattle.script.specs.declared.Record.{Record}
use Rattle.script.specs.Words.{word_at}
use Rattle.replay_payloads.specs.declared.Loan.{Loan}
use Rattle.replay_payloads.specs.declared.Lengths.{Lengths}
use Rattle.replay_payloads.specs.Payloads.{asked_for, no_limit, most_records}

-- what is lent to a fit is what it asks for, or the places where they are less
pub record LoanIs (bs : List ℕ) (r : Record) (t : Loan) : Type 0 where
  pub places : t.places ≡ min (asked_for bs r 4 no_limit) 4096
  pub records : t.records ≡ min (asked_for bs r 5 most_records) 8192
  pub queue : t.queue ≡ min (asked_for bs r 6 no_limit) 16384
  pub all_records : t.all_records ≡ leb (asked_for bs r 5 most_records) 8192
  pub all_queue : t.all_queue ≡ leb (asked_for bs r 6 no_limit) 16384
  pub below : t.below ≡ asked_for bs r 7 no_limit
  pub kept : t.kept ≡ asked_for bs r 8 no_limit
  pub places_within : t.places ≤ 4096
  pub records_within : t.records ≤ 8192
  pub queue_within : t.queue ≤ 16384

-- a refusal by 13 or 14 that comes of a store that is shorter than asked for
unfoldable pub was_cut : Loan → ℕ → Bool
was_cut t number = cond (eqb number 13) (not t.all_records) (cond (eqb number 14) (not t.all_queue) false)

-- the output of alternatives is as long as asked for, or as so many paths can be
unfoldable pub list_fits : List ℕ → Record → (used : ℕ) → Bool
list_fits bs r used =
    leb (min (word_at bs (r.start + 1)) 64 * used) 16384
    || (leb (asked_for bs r 3 no_limit) 16384 && leb (asked_for bs r 4 no_limit) 16384 && leb (asked_for bs r 5 no_limit) 16384)

-- within the places
pub record LengthsWithin (s : Lengths) : Type 0 where
  pub below : s.below ≤ 65536
  pub kept : s.kept ≤ 8192
  pub entries : s.entries ≤ 4096
  pub words : s.words ≤ 65536
  pub frames : s.frames ≤ 16384
  pub segments : s.segments ≤ 16384

-- what is lent to a reading list
pub record LengthsAre (bs : List ℕ) (r : Record) (loan : Loan) (t : Lengths) : Type 0 where
  pub below : t.below ≡ min loan.below 65536
  pub kept : t.kept ≡ min loan.kept 8192
  pub entries : t.entries ≡ min (asked_for bs r 3 no_limit) 4096
  pub words : t.words ≡ min (asked_for bs r 4 no_limit) 65536
  pub frames : t.frames ≡ min (asked_for bs r 5 no_limit) 16384
  pub segments : t.segments ≡ min (asked_for bs r 6 no_limit) 16384
  pub within : LengthsWithin t

unfoldable pub all_entries : Loan → Bool
all_entries t = leb t.below 65536 && leb t.kept 8192

unfoldable pub all_output : List ℕ → Record → Bool
all_output bs r = leb (asked_for bs r 3 no_limit) 4096 && leb (asked_for bs r 4 no_limit) 65536 && leb (asked_for bs r 5 no_limit) 16384 && leb (asked_for bs r 6 no_limit) 16384
