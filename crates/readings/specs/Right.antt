-- What `alternatives` asks, and what it must answer and leave in the lent slices.
use Rattle.std.specs.Prelude.{◌≡◌, ℕ, ◌≤◌, ◌<◌, Bool, not, List, ℤ, T, length, get_or, take, Float, Some, Result, Ok, Err}
use Rattle.std.specs.Float.Ieee.{is_nan}
use Rattle.model.specs.Graph.{Graph}
use Rattle.model.specs.Passes.{State}
use Rattle.model.specs.Reads.{Traced as Told, use_finals, alternatives}
use Rattle.model.specs.Calls.{Answer, paths_answer, refused_read, read_alternatives}
use Rattle.tokens.specs.Layout.{held_at, place_in}
use Rattle.records.specs.History.{History}
use Rattle.records.specs.Layout.{store}
use Rattle.records.specs.Stands.{Stands}
use Rattle.stores.specs.Lent.{LeftToProgram}
use Rattle.stores.specs.Shown.{Shown}
use Rattle.stores.specs.Rep.{lent, Finished}
use Rattle.traceback.specs.declared.Candidate.{Candidate}
use Rattle.traceback.specs.Ranks.{candidate_at}
use Rattle.traceback.specs.Right.{ReadAsks}
use Rattle.readings.specs.Paths.{cost_in, tolds_of, Outputs, places_in, paths_in, front, all_words, all_frames, all_segments, ends_from, costs_of, Plains}
use Rattle.refusals.specs.declared.Reason.{Reason}
use Rattle.refusals.specs.Numbers.{number_of}

-- Stores that stand for some table, places for each state in the scratch slices, and no rank of a token that counts is a NaN.
pub record AlternativesAsk (tk : List ℕ) (sm fs : List Float) (rs : List ℕ) (ls : List ℤ) (n b used : ℕ) (keys places order : List ℕ) : Type 0 where
  pub read : ReadAsks tk sm fs rs ls n b used
  pub keys_long : n ≤ length keys
  pub places_long : n ≤ length places
  pub order_long : n ≤ length order
  pub few : n ≤ 65_535
  pub known : (counts : Bool) (s : ℕ) → s < n → (held_at tk (place_in b s) ≡ 0 → ⊥) → (c : Candidate) → candidate_at tk sm fs b s counts ≡ Some c → T (not (is_nan c.rank))

-- the definition's alternatives, as the paths of the first k states
pub record StatesListed (tk : List ℕ) (sm fs : List Float) (rs : List ℕ) (ls : List ℤ) (n b used : ℕ) (counts : Bool) (max : ℕ) (order : List ℕ) (k : ℕ) : Type 0 where
  pub few : k ≤ max
  pub long : k ≤ length order
  pub each : (i : ℕ) → i < k → (get_or order i 0 < n) × (held_at tk (place_in b (get_or order i 0)) ≡ 0 → ⊥)
  pub is : (g : Graph) → g.finals ≡ fs → (gs : List Float) (h : ℕ → History) → Stands (store rs ls gs) used h → (st : State) → Shown h used tk sm b n st.table → (use_final : Bool) → counts ≡ use_finals g st use_final
      → alternatives g st use_final max ≡ tolds_of tk rs ls b st.frames (cost_in sm fs b counts) (take k order)

-- These paths stand in front of each slice, and what lies behind them is unchanged: their words; a frame for each word; three numbers for each segment; for each path where its words and where its segments end, counted from the front; and its cost.
pub record Filled (ts : List Told) (o o' : Outputs) : Type 0 where
  pub words : o'.words ≡ front o.words (all_words ts)
  pub frames : o'.frames ≡ front o.frames (all_frames ts)
  pub segments : o'.segments ≡ front o.segments (all_segments ts)
  pub ends : o'.ends ≡ front o.ends (ends_from 0 0 ts)
  pub costs : o'.costs ≡ front o.costs (costs_of ts)

-- The answer and the slices, whole. A refusal leaves the slices as they were.
pub data ListedIs (a : Answer) (o o' : Outputs) : Result ℕ Reason → Type 0 where
  listed_refused : (e : Reason) → a ≡ refused_read (number_of e) → o' ≡ o → ListedIs a o o' (Err e)
  listed_paths : (ts : List Told) → a ≡ paths_answer ts → Plains ts → Filled ts o o' → ListedIs a o o' (Ok (length ts))

-- the definition's answer, for every state that the stores stand for
pub record AlternativesRight (tk : List ℕ) (sm fs : List Float) (rs : List ℕ) (ls : List ℤ) (n b used decoded : ℕ) (use_final : Bool) (max : ℕ) (o o' : Outputs) (r : Result ℕ Reason) : Type 0 where
  pub answer : (g : Graph) → g.finals ≡ fs → (gs : List Float) (st : State) → st.frames ≡ decoded → Finished b n (lent tk sm rs ls gs) used st.table → ListedIs (read_alternatives g st use_final max (places_in o)) o o' r

-- ---- the slices that it works in

pub record Scratch : Type 0 where
  pub keys : List ℕ
  pub places : List ℕ
  pub order : List ℕ
  pub history_keys : List ℕ
  pub history_skips : List ℕ

abbrev pub scratch : (keys places order history_keys history_skips : List ℕ) → Scratch
scratch ks ps os hs cs = record { keys = ks; places = ps; order = os; history_keys = hs; history_skips = cs }

pub record ScratchLeft (w w' : Scratch) : Type 0 where
  pub keys : LeftToProgram w.keys w'.keys
  pub places : LeftToProgram w.places w'.places
  pub order : LeftToProgram w.order w'.order
  pub history_keys : LeftToProgram w.history_keys w'.history_keys
  pub history_skips : LeftToProgram w.history_skips w'.history_skips

-- ---- read back

abbrev pub listed_as : Result ℕ Reason → Outputs → Answer
listed_as (Err e) o = refused_read (number_of e)
listed_as (Ok k) o = paths_answer (paths_in k o)
