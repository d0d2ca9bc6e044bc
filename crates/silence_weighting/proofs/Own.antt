-- A state that a call gave back passes the tests of a state that is brought, with memory as long: such a caller is answered as the definition says.
-- Assumes nothing.
use mathlib.Core.Path.{◌≡◌, refl, sym, ap, ap₂, ◌∙◌}
use Prim.Native.Nat.{ℕ, ◌-◌, ◌^◌, ◌≤◌, min, max}
use native.Mathlib.Omega.{arith}
use mathlib.Core.Logic.{◌⊎◌, inl, inr}
use mathlib.Core.Bool.{Bool, true, false, ◌||◌, cond}
use mathlib.Core.List.{List, []}
use lib.IntN.{ℤ}
use lib.Dec.{leb, ltb}
use lib.ListN.{length}
use lib.Ieee.{Float}
use borrow.Author.Tests.{le-ltb}
use Rattle.lists.specs.Tests.{case}
use Rattle.std.specs.Prelude.{Ok}
use Rattle.model.specs.Basics.{Outcome, ok, refused}
use Rattle.model.specs.Silence.{SilenceWeighting as Weighting, with_info, grown, tell_from, weighting_wrong, new_silence, too_many, bad_segments, compute_current_traceback, Deltas, deltas_of, ceil_div, get_delta_weights}
use Rattle.silence_weighting.specs.declared.SilenceWeighting.{SilenceWeighting}
use Rattle.silence_weighting.specs.State.{frame_at, info_of, state_of, places, segments_of}
use Rattle.silence_weighting.specs.Answers.{brought, NewRight, TracebackRight, Memory, deltas_in, DeltasRight}
use Rattle.lists.specs.Parts.{range_many}
use Rattle.silence_weighting.proofs.Told.{grown-length, tell-length}
use Rattle.silence_weighting.proofs.Limits.{few_frames}
use Rattle.silence_weighting.proofs.Weighs.{deltas_are_lem}

-- ---- an answer that was no refusal

accepted : {A : Type 0} (n : ℕ) (x : A) → ok x ≡ refused n → ⊥
accepted n x e = let z : ◌≡◌ {A = ℕ} 0 1 = cc in omega arith

passed : {A : Type 0} (wrong long : Bool) (x : A) (e : Outcome A) → ok x ≡ cond wrong (refused 7) (cond long (refused 10) e) → (wrong ≡ false) × ((long ≡ false) × (ok x ≡ e))
passed true long x e h = absurd (accepted 7 x h)
passed false true x e h = absurd (accepted 10 x h)
passed false false x e h = (refl, (refl, h))

inside : {A : Type 0} (x y : A) → ok x ≡ ok y → x ≡ y
inside x y e = cc

made : {A : Type 0} (wrong : Bool) (x y : A) → ok x ≡ cond wrong (refused 7) (ok y) → (wrong ≡ false) × (x ≡ y)
made true x y e = absurd (accepted 7 x e)
made false x y e = (refl, inside x y e)

traced : {A : Type 0} (much bad : Bool) (x y : A) → ok x ≡ (elim (much || bad) as (λ b. Outcome A) [ true ↦ refused 10 | false ↦ ok y ]) → (much ≡ false) × (x ≡ y)
traced true bad x y e = absurd (accepted 10 x e)
traced false true x y e = absurd (accepted 10 x e)
traced false false x y e = (refl, inside x y e)

-- ---- the tests of a state that is brought

pub record Own (s : SilenceWeighting) (store : ℕ) : Type 0 where
  pub settings : weighting_wrong s.weight s.subsampling ≡ false
  pub list : too_many store s.frames ≡ false

pub own_answers : {A : Type 0} (s : SilenceWeighting) (store : ℕ) (answer : Outcome A) → Own s store → brought s store answer ≡ answer
unfolding brought
own_answers s store answer o = rw (o.settings, o.list)

few : (store n : ℕ) → n ≤ 65_536 → n ≤ store → too_many store n ≡ false
unfolding too_many
few store n h k = rw (le-ltb 65_536 n h, le-ltb store n k)

frames_of : (ps : List ℤ) (s : SilenceWeighting) (ss : List ℕ) (ws : List Float) → length (state_of ps s ss ws).info ≡ s.frames
unfolding state_of info_of
frames_of ps s ss ws = range_many (frame_at ss ws) 0 s.frames

-- the settings stay, and the list has t frames
kept : (ps : List ℤ) (s s' : SilenceWeighting) (store t : ℕ) (ss : List ℕ) (ws : List Float) (st : Weighting) → state_of ps s' ss ws ≡ st → st.weight ≡ s.weight → st.subsampling ≡ s.subsampling → length st.info ≡ t
    → weighting_wrong s.weight s.subsampling ≡ false → t ≤ 65_536 → t ≤ store → Own s' store
unfolding state_of
kept ps s s' store t ss ws st e hw hf hl a h k =
    let w : s'.weight ≡ s.weight = ap (λ (x : Weighting). x.weight) e ∙ hw in
    let f : s'.subsampling ≡ s.subsampling = ap (λ (x : Weighting). x.subsampling) e ∙ hf in
    let l : s'.frames ≡ t = sym (frames_of ps s' ss ws) ∙ ap (λ (x : Weighting). length x.info) e ∙ hl in
    record { settings = ap₂ weighting_wrong w f ∙ a; list = few store s'.frames (omega arith) (omega arith) }

-- ---- each call

pub own_new : (weight : Float) (subsampling : ℕ) (s : SilenceWeighting) (store : ℕ) → NewRight weight subsampling (Ok s) → Own s store
unfolding new_silence
own_new weight subsampling s store r =
    let fresh : Weighting = record { phones = []; weight = weight; subsampling = subsampling; info = [] } in
    let x = made (weighting_wrong weight subsampling) (state_of [] s [] []) fresh (r.answer [] [] []) in
    kept [] (record { weight = weight; subsampling = subsampling; frames = 0 }) s store 0 [] [] fresh x.1 refl refl refl x.0 (omega arith) (omega arith)

pub own_traced : (s s' : SilenceWeighting) (ps phones : List ℤ) (starts ends : List ℕ) (n : ℕ) (ss : List ℕ) (ws : List Float) (ss' : List ℕ) (ws' : List Float)
    → TracebackRight s ps phones starts ends n ss ws (Ok s') ss' ws' → length ss' ≡ length ss → length ws' ≡ length ws → Own s' (places ss' ws')
unfolding brought compute_current_traceback state_of
own_traced s s' ps phones starts ends n ss ws ss' ws' r hs hw =
    let store = places ss ws in
    let segments = segments_of phones starts ends in
    let st = state_of ps s ss ws in
    let told = tell_from ps segments n 0 (grown n st.info) in
    let x = passed (weighting_wrong s.weight s.subsampling) (too_many store s.frames) (state_of ps s' ss' ws') (compute_current_traceback store segments n st) r.answer in
    let y = traced (too_many store n) (bad_segments segments) (state_of ps s' ss' ws') (with_info st told) x.1.1 in
    let a = few_frames store s.frames x.1.0 in
    let b = few_frames store n y.0 in
    kept ps s s' (places ss' ws') (max s.frames n) ss' ws' (with_info st told) y.1 refl refl
    (tell-length ps segments n 0 (grown n st.info) ∙ grown-length s.frames n ss ws) x.0 (omega arith) (omega arith)

-- the definition's two ways to accept
weighed : {A : Type 0} (late early much none short : Bool) (x y z : A)
    → ok x ≡ (elim (late || early || much) as (λ b. Outcome A) [ true ↦ refused 10 | false ↦ elim none as (λ b. Outcome A) [ true ↦ ok y | false ↦ elim short as (λ b. Outcome A) [ true ↦ refused 11 | false ↦ ok z ] ] ])
    → (much ≡ false) × ((x ≡ y) ⊎ (x ≡ z))
weighed true early much none short x y z e = absurd (accepted 10 x e)
weighed false true much none short x y z e = absurd (accepted 10 x e)
weighed false false true none short x y z e = absurd (accepted 10 x e)
weighed false false false true short x y z e = (refl, inl (inside x y e))
weighed false false false false true x y z e = absurd (accepted 11 x e)
weighed false false false false false x y z e = (refl, inr (inside x z e))

pub own_weighed : (s s' : SilenceWeighting) (ready from c : ℕ) (m m' : Memory) → DeltasRight s ready from m (Ok (record { next = s'; count = c })) m'
    → length m'.status ≡ length m.status → length m'.weights ≡ length m.weights → Own s' (places m'.status m'.weights)
unfolding brought get_delta_weights state_of
own_weighed s s' ready from c m m' r hs hw =
    let ss = m.status in
    let ws = m.weights in
    let store = places ss ws in
    let n = ceil_div (ready - from) s.subsampling in
    let st = state_of [] s ss ws in
    let given : Deltas = record { state = state_of [] s' m'.status m'.weights; deltas = deltas_in c m'.frames m'.deltas } in
    let nothing : Deltas = record { state = st; deltas = [] } in
    let full = deltas_of st n from in
    let room = min (length m.frames) (length m.deltas) in
    let x = passed (weighting_wrong s.weight s.subsampling) (too_many store s.frames) given (get_delta_weights store room ready from st) (r.answer []) in
    let y = weighed (ltb (2 ^ 32) ready) (ltb (2 ^ 32) from) (too_many store n) (leb ready from) (ltb room (length full.deltas)) given nothing full x.1.1 in
    let a = few_frames store s.frames x.1.0 in
    let b = few_frames store n y.0 in
    case y.1
    (λ e. kept [] s s' (places m'.status m'.weights) s.frames m'.status m'.weights st (ap (λ (d : Deltas). d.state) e) refl refl (frames_of [] s ss ws) x.0 (omega arith) (omega arith))
    (λ e.
    let z = deltas_are_lem s n from ss ws [] (omega arith) (omega arith) (omega arith) (omega arith) in
    kept [] s s' (places m'.status m'.weights) (max s.frames n) m'.status m'.weights _ (ap (λ (d : Deltas). d.state) (e ∙ z)) refl refl (frames_of [] (record { weight = s.weight; subsampling = s.subsampling; frames = max s.frames n }) _ _) x.0 (omega arith) (omega arith))
