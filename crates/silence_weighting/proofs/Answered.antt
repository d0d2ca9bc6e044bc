-- The calls' answers by the outcomes of their tests. Assumes nothing.
use mathlib.Core.Path.{◌≡◌, refl, sym}
use Prim.Native.Nat.{ℕ}
use mathlib.Core.Bool.{Bool, true, false, ◌||◌, cond}
use mathlib.Core.List.{List}
use lib.IntN.{ℤ}
use lib.Ieee.{Float}
use Rattle.lists.specs.Tests.{never}
use Rattle.std.specs.Prelude.{Option, Some, None, Result, Ok, Err}
use Rattle.refusals.specs.declared.Reason.{Reason}
use Rattle.refusals.specs.declared.Reason.TheVariants.{BadSilenceSetting, TooManyFrames, TooShort}
use Rattle.refusals.specs.Numbers.{number_of}
use Rattle.model.specs.Basics.{Outcome, ok, refused}
use Rattle.model.specs.Silence.{SilenceWeighting as Weighting, with_info, weighting_wrong, too_many, bad_segments, grown, tell_from, compute_current_traceback, Deltas}
use Rattle.silence_weighting.specs.declared.SilenceWeighting.{SilenceWeighting}
use Rattle.silence_weighting.specs.State.{places, state_of, segments_of}
use Rattle.silence_weighting.specs.declared.Window.{Window}
use Rattle.silence_weighting.specs.declared.Write.{Write}
use Rattle.silence_weighting.specs.Answers.{brought}

abbrev traced_for : (wrong long much bad : Bool) → Weighting → Outcome Weighting
traced_for wrong long much bad d = cond wrong (refused 7) (cond long (refused 10) (elim (much || bad) [ true ↦ refused 10 | false ↦ ok d ]))

pub traced_by : (ps : List ℤ) (s : SilenceWeighting) (phones : List ℤ) (starts ends : List ℕ) (n : ℕ) (ss : List ℕ) (ws : List Float) {wrong long much bad : Bool}
    → weighting_wrong s.weight s.subsampling ≡ wrong → too_many (places ss ws) s.frames ≡ long → too_many (places ss ws) n ≡ much → bad_segments (segments_of phones starts ends) ≡ bad
    → let st = state_of ps s ss ws in
    traced_for wrong long much bad (with_info st (tell_from ps (segments_of phones starts ends) n 0 (grown n st.info)))
    ≡ brought s (places ss ws) (compute_current_traceback (places ss ws) (segments_of phones starts ends) n st)
unfolding brought compute_current_traceback state_of
traced_by ps s phones starts ends n ss ws p q r t =
    let st = state_of ps s ss ws in
    sym (λ i. traced_for (p i) (q i) (r i) (t i) (with_info st (tell_from ps (segments_of phones starts ends) n 0 (grown n st.info))))

-- ---- the differences

abbrev pub weighed_for : (wrong long late early none much short : Bool) → (nothing full : Deltas) → Outcome Deltas
weighed_for wrong long late early none much short nothing full =
    let some-yet : Outcome Deltas = elim short [ true ↦ refused 11 | false ↦ ok full ] in
    let none_yet : Outcome Deltas = ok nothing in
    cond wrong (refused 7) (cond long (refused 10) (elim (late || early || much) [ true ↦ refused 10 | false ↦ elim none [ true ↦ none_yet | false ↦ some-yet ] ]))

abbrev plan_for : (wrong long late early none much short : Bool) → Window → ℕ → Result (Option Write) Reason
plan_for wrong long late early none much short w c =
    cond wrong (Err BadSilenceSetting) (cond long (Err TooManyFrames) (cond late (Err TooManyFrames) (cond early (Err TooManyFrames)
    (cond none (Ok None) (cond much (Err TooManyFrames) (cond short (Err TooShort) (Ok (Some (record { window = w; count = c })))))))))

-- what a plan says of the definition's answer; where it writes, F holds
abbrev pub Planned : (nothing full : Deltas) → Write → (F : Type 0) → Result (Option Write) Reason → Outcome Deltas → Type 0
Planned nothing full w F (Err r) e = e ≡ refused (number_of r)
Planned nothing full w F (Ok None) e = e ≡ ok nothing
Planned nothing full w F (Ok (Some v)) e = (v ≡ w) × ((e ≡ ok full) × F)

pub planned : (wrong long late early none much short : Bool) (nothing full : Deltas) (w : Window) (c : ℕ) (F : Type 0) → (wrong ≡ false → none ≡ true → much ≡ false)
    → (wrong ≡ false → long ≡ false → early ≡ false → much ≡ false → short ≡ false → F)
    → Planned nothing full (record { window = w; count = c }) F (plan_for wrong long late early none much short w c) (weighed_for wrong long late early none much short nothing full)
planned true long late early none much short x y w c F h f = refl
planned false true late early none much short x y w c F h f = refl
planned false false true early none much short x y w c F h f = refl
planned false false false true none much short x y w c F h f = refl
planned false false false false true true short x y w c F h f = never (sym (h refl refl))
planned false false false false true false short x y w c F h f = refl
planned false false false false false true short x y w c F h f = refl
planned false false false false false false true x y w c F h f = refl
planned false false false false false false false x y w c F h f = (refl, (refl, f refl refl refl refl refl))
