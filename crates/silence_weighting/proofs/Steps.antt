-- The window, frame by frame: what is left is the next frame's and what is left behind it. Assumes nothing.
use mathlib.Core.Path.{◌≡◌, refl, sym, ap, ◌∙◌, subst}
use Prim.Native.Nat.{ℕ, suc, ◌+◌, ◌-◌, ◌*◌, ◌≤◌, ◌<◌}
use native.Mathlib.Numerals.{add-one}
use native.Mathlib.Omega.{arith}
use mathlib.Core.Bool.{Bool, true, false, ◌||◌, cond}
use mathlib.Core.List.{List, [], ◌∷◌, ◌++◌, map}
use lib.Dec.{eqb}
use lib.ListN.{length, get_or, length-append}
use lib.Ieee.{Float, nan, ne}
use borrow.Author.Tests.{eqb-true, eqb-false, eq-eqb, ne_eqb}
use Rattle.lists.specs.Lists.{range}
use Rattle.lists.specs.Tests.{case, either}
use Rattle.model.specs.Basics.{◌⊖◌, 0f}
use Rattle.silence_weighting.specs.declared.Window.{Window}
use Rattle.silence_weighting.specs.declared.Step.{Step}
use Rattle.silence_weighting.specs.Parts.{grown_at, weight_of, weights_along, frames_from, weights_left, deltas_left, step_at}
use Rattle.lists.specs.Parts.{range_many}
use Rattle.silence_weighting.proofs.Runs.{range_next, range_done}

-- what a step tells: its difference for each input frame
abbrev pub told_at : Window → ℕ → Step → List (ℕ × Float)
told_at w f t = map {B = ℕ × Float} (λ k. (w.first + f * w.subsampling + k, t.delta)) (range 0 t.times)

told_cond : (w : Window) (f : ℕ) (v d : Float) (b : Bool)
    → cond b (map {B = ℕ × Float} (λ k. (w.first + f * w.subsampling + k, d)) (range 0 w.subsampling)) [] ≡ told_at w f (record { weight = v; delta = d; times = cond b w.subsampling 0 })
told_cond w f v d true = refl
told_cond w f v d false = refl

few : (b : Bool) (n : ℕ) → cond b n 0 ≤ n
few true n = omega arith
few false n = omega arith

-- the last frame is the one with none behind it
last_is : (f n : ℕ) → f < n → eqb (n - suc f) 0 ≡ eqb (suc f) n
last_is f n h = case (either (eqb (suc f) n))
    (λ e. let u : suc f ≡ n = eqb-true (suc f) n e in eq-eqb (n - suc f) 0 (omega arith) ∙ sym e)
    (λ e. let u : suc f ≡ n → ⊥ = eqb-false (suc f) n e in ne_eqb (n - suc f) 0 (λ z. u (omega arith)) ∙ sym e)

module _ (w : Window) (ss : List ℕ) (ws : List Float) (p : Float) (f : ℕ) where
  frames_next : f < w.total → frames_from w ss ws f ≡ grown_at w.listed ss ws f ∷ frames_from w ss ws (suc f)
  frames_next h = rw (range_next f w.total h)

  pub weights_next : f < w.total → weights_left w ss ws p f ≡ (step_at w ss ws p f).weight ∷ weights_left w ss ws (step_at w ss ws p f).weight (f + 1)
  unfolding step_at weights_along
  weights_next h = rw (add-one, frames_next h)

  pub deltas_next : f < w.total → deltas_left w ss ws p f ≡ told_at w f (step_at w ss ws p f) ++ deltas_left w ss ws (step_at w ss ws p f).weight (f + 1)
  unfolding step_at weights_along
  deltas_next h =
      let i = grown_at w.listed ss ws f in
      let v = weight_of w.silence w.unknown p i in
      let d = v ⊖ i.weight in
      rw (add-one, frames_next h, range_many (grown_at w.listed ss ws) (suc f) (w.total - suc f), last_is f w.total h)
      (ap (λ (r : List (ℕ × Float)). r ++ deltas_left w ss ws v (suc f)) (told_cond w f v d (ne d 0f || eqb (suc f) w.total)))

  pub weights_done : w.total ≤ f → weights_left w ss ws p f ≡ []
  unfolding weights_along
  weights_done h = rw (range_done f w.total h)

  pub deltas_done : w.total ≤ f → deltas_left w ss ws p f ≡ []
  unfolding weights_along
  deltas_done h = rw (range_done f w.total h)

  -- of a step t of the code: how often it is told, and what is left behind it
  pub times_few : (t : Step) → t ≡ step_at w ss ws p f → t.times ≤ w.subsampling
  unfolding step_at
  times_few t e =
      let i = grown_at w.listed ss ws f in
      subst (λ (u : Step). u.times ≤ w.subsampling) (sym e) (few (ne (weight_of w.silence w.unknown p i ⊖ i.weight) 0f || eqb (suc f) w.total) w.subsampling)

  count_step : f < w.total → length (deltas_left w ss ws p f) ≡ (step_at w ss ws p f).times + length (deltas_left w ss ws (step_at w ss ws p f).weight (f + 1))
  count_step h =
      let t = step_at w ss ws p f in
      let l = range_many {A = ℕ × Float} (λ k. (w.first + f * w.subsampling + k, t.delta)) 0 t.times in
      omega (arith, ap length (deltas_next h) ∙ length-append (told_at w f t) (deltas_left w ss ws t.weight (f + 1)))

  pub count_next : (t : Step) → t ≡ step_at w ss ws p f → f < w.total → length (deltas_left w ss ws p f) ≡ t.times + length (deltas_left w ss ws t.weight (f + 1))
  count_next t e h = subst (λ (u : Step). length (deltas_left w ss ws p f) ≡ u.times + length (deltas_left w ss ws u.weight (f + 1))) (sym e) (count_step h)

-- a step reads no frame but its own
pub step_same : (w : Window) (ss : List ℕ) (ws ws' : List Float) (p : Float) (f : ℕ) → get_or ws' f nan ≡ get_or ws f nan → step_at w ss ws' p f ≡ step_at w ss ws p f
unfolding step_at grown_at
step_same w ss ws ws' p f e = rw e
