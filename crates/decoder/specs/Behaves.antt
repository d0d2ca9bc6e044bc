-- Lists of calls: each is given what the last one left, and meets its contract. Nothing is proved here.
use Rattle.std.specs.Prelude.{◌≡◌, ℕ, Bool, List, [], ◌∷◌, ◌++◌, length, Float, Option, Result}
use Rattle.model.specs.Path.{Limits}
use Rattle.model.specs.Calls.{Call, start_call, frame_call, keep_call, read_call, best_path_read, alternatives_read, readings_read, relative_cost_read, num_active_read, frames_decoded_read, Answer, done_answer, refusal_answer, count_answer, cost_answer}
use Rattle.stores.specs.Rep.{Lent}
use Rattle.arcs.specs.State.{Tables}
use Rattle.checks.specs.Margin.{asked}
use Rattle.traceback.specs.declared.BestPath.{BestPath}
use Rattle.traceback.specs.Right.{Parts, places_of, best_as}
use Rattle.readings.specs.Paths.{Outputs, places_in}
use Rattle.readings.specs.Right.{Scratch, listed_as}
use Rattle.reading_list.specs.Outputs.{Outputs as Lists, places_in as places_for}
use Rattle.reading_list.specs.Right.{list_as}
use Rattle.reading_list.specs.Scratch.{Scratch as ListScratch}
use Rattle.decoder.specs.declared.Decoder.{Decoder}
use Rattle.decoder.specs.declared.Called.{Called}
use Rattle.decoder.specs.declared.Called.TheVariants.{Done, Refused}
use Rattle.decoder.specs.Represents.{exact, refusal_of}
use Rattle.decoder.specs.Promises.{StartIs, FrameIs, keep_of, ActiveIs, RelativeCostIs, BestPathIs, AlternativesIs, holding, ReadingsIs}
use Rattle.refusals.specs.declared.Reason.{Reason}

-- ---- what a call says, and the decoder that it gives back

abbrev pub answer_of : Called → Answer
answer_of (Done d) = done_answer
answer_of (Refused d f) = refusal_answer (refusal_of f)

abbrev pub value_of : Called → Decoder
value_of (Done d) = d
value_of (Refused d f) = d

-- ---- one call

-- By cases on the call, with the limits that its stores set: the contract of its entry point. A read leaves decoder and stores.
pub data Behaves (T : Tables) (finals : List Float) (eps : List ℕ) (places : ℕ) : Limits × Call → (m : Lent) → Decoder → Answer → (m' : Lent) → Decoder → Type 0 where
  start_behaves : {m m' : Lent} {qs qs' : List ℕ} {d : Decoder} (r : Called) → length qs ≡ places → StartIs T m m' qs qs' eps d r → Behaves T finals eps places (exact d places, start_call) m d (answer_of r) m' (value_of r)
  frame_behaves : {m m' : Lent} {qs qs' : List ℕ} {sc sc' : List Float} {d : Decoder} (r : Called) {ls : List Float} → length qs ≡ places → FrameIs T m m' qs qs' sc sc' eps ls d r → Behaves T finals eps places (exact d places, frame_call ls) m d (answer_of r) m' (value_of r)
  keep_behaves : {m : Lent} {d : Decoder} (keeps : Bool) (x : Float) → Behaves T finals eps places (exact d places, keep_call (asked keeps x)) m d (answer_of (keep_of d keeps x)) m (value_of (keep_of d keeps x))
  best_behaves : {m : Lent} {d : Decoder} (r : Result (Option BestPath) Reason) (use_final : Bool) (p p' : Parts) → BestPathIs m.tokens m.sums m.records m.labels finals d use_final p p' r
      → Behaves T finals eps places (exact d places, read_call (best_path_read use_final (places_of p))) m d (best_as r p') m d
  alternatives_behaves : {m : Lent} {d : Decoder} (r : Result ℕ Reason) (use_final : Bool) (max : ℕ) {w w' : Scratch} (o o' : Outputs) → AlternativesIs m.tokens m.sums m.records m.labels finals d use_final max w w' o o' r
      → Behaves T finals eps places (exact d places, read_call (alternatives_read use_final max (places_in o))) m d (listed_as r o') m d
  readings_behaves : {m : Lent} {d : Decoder} (r : Result ℕ Reason) (use_final : Bool) (listed max entries kept : ℕ) {w w' : ListScratch} (o o' : Lists) → ReadingsIs m.tokens m.sums m.records m.labels m.gaps finals d use_final listed max entries kept w w' o o' r
      → Behaves T finals eps places (holding (exact d places) entries kept, read_call (readings_read use_final listed max (places_for o))) m d (list_as max r o') m d
  relative_behaves : {m : Lent} {d : Decoder} {x : Float} → RelativeCostIs m.tokens m.sums finals d x → Behaves T finals eps places (exact d places, read_call relative_cost_read) m d (cost_answer x) m d
  active_behaves : {m : Lent} {d : Decoder} {n : ℕ} → ActiveIs m.tokens d n → Behaves T finals eps places (exact d places, read_call num_active_read) m d (count_answer n) m d
  frames_behaves : {m : Lent} {d : Decoder} → Behaves T finals eps places (exact d places, read_call frames_decoded_read) m d (count_answer d.frames) m d

-- ---- a list of calls, from one decoder and its stores to another

pub data Runs (T : Tables) (finals : List Float) (eps : List ℕ) (places : ℕ) (m : Lent) (d : Decoder) : List (Limits × Call) → List Answer → Lent → Decoder → Type 0 where
  none_yet : Runs T finals eps places m d [] [] m d
  one_more : {m' m'' : Lent} {d' d'' : Decoder} {ks : List (Limits × Call)} {ans : List Answer} {k : Limits × Call} {a : Answer} → Runs T finals eps places m d ks ans m' d' → Behaves T finals eps places k m' d' a m'' d'' → Runs T finals eps places m d (ks ++ (k ∷ [])) (ans ++ (a ∷ [])) m'' d''
