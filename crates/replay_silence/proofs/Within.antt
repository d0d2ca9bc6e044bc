-- An answer of `get_delta_weights` has no more differences than the output that was lent has places. Assumes nothing.
use Rattle.std.specs.Prelude.{◌≡◌, refl, ℕ, ◌-◌, ◌^◌, ◌≤◌, min, Bool, true, false, ◌||◌, cond, List, [], leb, ltb, length, get_or, Float, Result, Ok, Err}
use Rattle.std.specs.Float.{nan}
use Rattle.std.proofs.Common.{arith, ap, ltb-false}
use Rattle.lists.specs.Parts.{range_many}
use Rattle.model.specs.Basics.{Outcome, ok, refused}
use Rattle.model.specs.Silence.{SilenceWeighting as Weighting, Deltas, weighting_wrong, too_many, ceil_div, deltas_of, get_delta_weights}
use Rattle.silence_weighting.specs.declared.SilenceWeighting.{SilenceWeighting}
use Rattle.silence_weighting.specs.declared.Weighed.{Weighed}
use Rattle.silence_weighting.specs.State.{state_of, places}
use Rattle.silence_weighting.specs.Answers.{brought, Memory, deltas_in, DeltasRight}
use Rattle.replay_silence.specs.Shape.{CountWithin}
use Rattle.refusals.specs.declared.Reason.{Reason}

-- how many differences an outcome has
abbrev delta_count : Outcome Deltas → ℕ
delta_count (ok d) = length d.deltas
delta_count (refused n) = 0

few_given : (s : Weighting) (store room ready from : ℕ) → delta_count (get_delta_weights store room ready from s) ≤ room
unfolding get_delta_weights
few_given s store room ready from =
    go (ltb (2 ^ 32) ready || ltb (2 ^ 32) from || too_many store (ceil_div (ready - from) s.subsampling)) (leb ready from) (ltb room (length full.deltas)) refl
  where
    full : Deltas
    full = deltas_of s (ceil_div (ready - from) s.subsampling) from

    nothing : Deltas
    nothing = record { state = s; deltas = [] }

    go : (much none short : Bool) → ltb room (length full.deltas) ≡ short
        → let none_yet : Outcome Deltas = ok nothing in
        let some-yet : Outcome Deltas = elim short [ true ↦ refused 11 | false ↦ ok full ] in
        delta_count (elim much [ true ↦ refused 10 | false ↦ elim none [ true ↦ none_yet | false ↦ some-yet ] ]) ≤ room
    go true none short e = omega arith
    go false true short e = omega arith
    go false false true e = omega arith
    go false false false e = ltb-false _ _ e

few_brought : (s : SilenceWeighting) (store room : ℕ) (o : Outcome Deltas) → delta_count o ≤ room → delta_count (brought s store o) ≤ room
unfolding brought
few_brought s store room o h = go (weighting_wrong s.weight s.subsampling) (too_many store s.frames)
  where
    go : (wrong long : Bool) → delta_count (cond wrong (refused 7) (cond long (refused 10) o)) ≤ room
    go true long = omega arith
    go false true = omega arith
    go false false = h

as_many : (n : ℕ) (fs : List ℕ) (ds : List Float) → length (deltas_in n fs ds) ≡ n
unfolding deltas_in
as_many n fs ds = range_many (λ k. (get_or fs k 0, get_or ds k nan)) 0 n

pub deltas_within : (s : SilenceWeighting) (ready from : ℕ) (m m' : Memory) (r : Result Weighed Reason) (n : ℕ) → DeltasRight s ready from m r m' → length m.frames ≡ n → CountWithin n r
deltas_within s ready from m m' (Err k) n right h = tt
deltas_within s ready from m m' (Ok w) n right h =
    let store = places m.status m.weights in
    let room = min (length m.frames) (length m.deltas) in
    let st = state_of [] s m.status m.weights in
    let few = few_brought s store room (get_delta_weights store room ready from st) (few_given st store room ready from) in
    omega (arith, as_many w.count m'.frames m'.deltas, ap delta_count (right.answer []), few, h)
