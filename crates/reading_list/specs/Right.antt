-- What the reading list must answer and leave in the lent slices.
use Rattle.std.specs.Prelude.{◌≡◌, ℕ, Bool, List, ℤ, length, Float, Result, Ok, Err}
use Rattle.std.proofs.Math.Option.{some}
use Rattle.model.specs.Path.{Limits}
use Rattle.model.specs.Reads.{Traced as Told}
use Rattle.model.specs.Calls.{Reading, Answer, readings_answer, refused_read, read_readings}
use Rattle.readings.specs.Paths.{lesser_of, front, all_frames, all_segments, Plains}
use Rattle.listing_laws.specs.Situation.{Situation}
use Rattle.reading_list.specs.Outputs.{Outputs, places_in, words_of, numbers_of, costs_of, Traces, Phones, readings_in, traces_in}
use Rattle.refusals.specs.declared.Reason.{Reason}
use Rattle.refusals.specs.Numbers.{number_of}

-- the first `max` readings are traced, and all is read as it was written
pub record Agree (max : ℕ) (rs : List Reading) (ts : List Told) : Type 0 where
  pub many : length ts ≡ lesser_of max (length rs)
  pub traces : Traces ts rs
  pub plains : Plains ts
  pub phones : Phones rs

-- These stand in front of each slice, and what lies behind is unchanged: the words of all readings; for the traces a frame for each word, and three numbers for each segment;
-- for each reading five numbers (where its words end, where its segments end, how many kept histories it takes, its token's phone and seq) and four costs (its rank, its cost, its token's cost and graph sum).
-- Ends are counted from the front. A reading that is not traced has no segments, and so ends where the one before it does.
pub record Filled (rs : List Reading) (ts : List Told) (o o' : Outputs) : Type 0 where
  pub words : o'.words ≡ front o.words (words_of rs)
  pub frames : o'.frames ≡ front o.frames (all_frames ts)
  pub segments : o'.segments ≡ front o.segments (all_segments ts)
  pub numbers : o'.numbers ≡ front o.numbers (numbers_of 0 0 rs ts)
  pub costs : o'.costs ≡ front o.costs (costs_of rs)

-- The answer and the slices, whole. A refusal leaves the slices as they were.
pub data ReadingsAre (a : Answer) (max : ℕ) (o o' : Outputs) : Result ℕ Reason → Type 0 where
  readings_refused : (e : Reason) → a ≡ refused_read (number_of e) → o' ≡ o → ReadingsAre a max o o' (Err e)
  readings_listed : (rs : List Reading) (ts : List Told) → a ≡ readings_answer rs ts → Agree max rs ts → Filled rs ts o o' → ReadingsAre a max o o' (Ok (length rs))

-- these places for the lists below joins and for kept readings
pub record StoresHold (l : Limits) (entries kept : ℕ) : Type 0 where
  pub below : l.below ≡ some entries
  pub kept_are : l.kept ≡ some kept

-- the definition's answer, for every state that the stores stand for
pub record ReadingsRight (tk : List ℕ) (sm fs : List Float) (rs : List ℕ) (ls : List ℤ) (gs : List Float) (n b used : ℕ) (keeps : Bool) (margin : Float) (decoded : ℕ) (use_final : Bool) (listed max entries kept : ℕ) (o o' : Outputs) (r : Result ℕ Reason) : Type 0 where
  pub answer : (S : Situation tk sm fs rs ls gs n b used keeps margin) → S.st.frames ≡ decoded → (l : Limits) → StoresHold l entries kept → ReadingsAre (read_readings S.g l S.st use_final listed max (places_in o)) max o o' r

-- ---- read back

abbrev pub list_as : (max : ℕ) → Result ℕ Reason → Outputs → Answer
list_as max (Err e) o = refused_read (number_of e)
list_as max (Ok k) o = readings_answer (readings_in k o) (traces_in (lesser_of max k) o)
