-- The loop that writes the differences: what it has written, and what is still to be written. Assumes nothing.
use mathlib.Core.Path.{◌≡◌, refl, sym, ap, ◌∙◌, subst}
use Prim.Native.Nat.{ℕ, zero, suc, ◌+◌, ◌-◌, ◌*◌, ◌≤◌, ◌<◌}
use native.Mathlib.Nat.{add-zero, zero-add, mul-le-mul_left}
use native.Mathlib.Numerals.{add-one}
use native.Mathlib.Omega.{arith}
use mathlib.Core.List.{List, [], ◌∷◌, ◌++◌, map}
use lib.ListN.{length, get_or, set, replicate, length-set, length-replicate}
use lib.Seq.{sets, length-sets, get_or-set_other}
use lib.Ieee.{Float, nan}
use Rattle.lists.specs.Lists.{range}
use Rattle.lists.specs.Parts.{sets_append}
use Rattle.silence_weighting.specs.declared.Window.{Window}
use Rattle.silence_weighting.specs.declared.Step.{Step}
use Rattle.silence_weighting.specs.Parts.{weights_left, deltas_left, weights_on, deltas_on, step_at, Sound, Wrote}
use Rattle.silence_weighting.proofs.Steps.{told_at, weights_next, deltas_next, weights_done, deltas_done, step_same, count_next}

-- frame numbers and differences of a list
abbrev pub firsts : List (ℕ × Float) → List ℕ
firsts = map (λ (d : ℕ × Float). d.0)

abbrev pub seconds : List (ℕ × Float) → List Float
seconds = map (λ (d : ℕ × Float). d.1)

map_append : {A B : Type 0} (f : A → B) (xs ys : List A) → map f (xs ++ ys) ≡ map f xs ++ map f ys
map_append f [] ys = refl
map_append {B = B} f (x ∷ xs) ys = ap (λ (r : List B). f x ∷ r) (map_append f xs ys)

told_firsts : (b : ℕ) (d : Float) (a n : ℕ) → firsts (map {B = ℕ × Float} (λ k. (b + k, d)) (range a n)) ≡ range (b + a) n
told_firsts b d a zero = refl
told_firsts b d a (suc n) = let e : suc (b + a) ≡ b + suc a = omega arith in rw e (ap (λ (r : List ℕ). (b + a) ∷ r) (told_firsts b d (suc a) n))

told_seconds : (b : ℕ) (d : Float) (a n : ℕ) → seconds (map {B = ℕ × Float} (λ k. (b + k, d)) (range a n)) ≡ replicate n d
told_seconds b d a zero = refl
told_seconds b d a (suc n) = ap (λ (r : List Float). d ∷ r) (told_seconds b d (suc a) n)

run_length : (b n : ℕ) → length (range b n) ≡ n
run_length b zero = refl
run_length b (suc n) = ap suc (run_length (suc b) n)

run_next : {A : Type 0} (l : List A) (at : ℕ) (xs ys : List A) (n : ℕ) → length xs ≡ n → sets (sets l at xs) (at + n) ys ≡ sets l at (xs ++ ys)
run_next l at xs ys n e = rw (← e) (sym (sets_append l at xs ys))

-- the products stay small
pub product_few : (f s : ℕ) → f ≤ 65_536 → s ≤ 16 → f * s ≤ 1_048_576
product_few f s h k = let u : f * s ≤ f * 16 = mul-le-mul_left f k in omega arith

pub sound_same : (w : Window) (ss : List ℕ) (ws ws' : List Float) → Sound w ss ws → length ws' ≡ length ws → Sound w ss ws'
sound_same w ss ws ws' h e = record { status = h.status; weights = omega arith; grows = h.grows; begins = h.begins; few = h.few; times = h.times; input = h.input }

-- Before frame f, with `at` differences written and p the weight before it: to write what is left gives what is wanted.
pub record Writing (w : Window) (ss : List ℕ) (ws : List Float) (fs : List ℕ) (ds : List Float) (ws' : List Float) (fs' : List ℕ) (ds' : List Float) (at : ℕ) (p : Float) (f : ℕ) : Type 0 where
  pub upto : f ≤ w.total
  pub as_many : length ws' ≡ length ws
  pub as_frames : length fs' ≡ length fs
  pub as_deltas : length ds' ≡ length ds
  pub left : at + length (deltas_left w ss ws p f) ≡ length (deltas_on w ss ws)
  pub later : (k : ℕ) → f ≤ k → get_or ws' k nan ≡ get_or ws k nan
  pub weights : sets ws' f (weights_left w ss ws p f) ≡ sets ws w.begin (weights_on w ss ws)
  pub frames : sets fs' at (firsts (deltas_left w ss ws p f)) ≡ sets fs 0 (firsts (deltas_on w ss ws))
  pub deltas : sets ds' at (seconds (deltas_left w ss ws p f)) ≡ sets ds 0 (seconds (deltas_on w ss ws))

module _ (w : Window) (ss : List ℕ) (ws : List Float) (fs : List ℕ) (ds : List Float) where
  pub writing_starts : w.begin ≤ w.total → Writing w ss ws fs ds ws fs ds 0 w.previous w.begin
  unfolding weights_on deltas_on
  writing_starts h = record { upto = h; as_many = refl; as_frames = refl; as_deltas = refl; left = zero-add _; later = λ k l. refl; weights = refl; frames = refl; deltas = refl }

  pub writing_ends : (ws' : List Float) (fs' : List ℕ) (ds' : List Float) (at : ℕ) (p : Float) (f : ℕ) → w.total ≤ f
      → Writing w ss ws fs ds ws' fs' ds' at p f → Wrote w ss ws fs ds ws' fs' ds'
  writing_ends ws' fs' ds' at p f h r =
      record {
        weights = ap (sets ws' f) (sym (weights_done w ss ws p f h)) ∙ r.weights;
        frames = ap (λ (l : List (ℕ × Float)). sets fs' at (firsts l)) (sym (deltas_done w ss ws p f h)) ∙ r.frames;
        deltas = ap (λ (l : List (ℕ × Float)). sets ds' at (seconds l)) (sym (deltas_done w ss ws p f h)) ∙ r.deltas;
      }

  module _ (ws' : List Float) (fs' : List ℕ) (ds' : List Float) (at : ℕ) (p : Float) (f : ℕ) (r : Writing w ss ws fs ds ws' fs' ds' at p f) (more : f < w.total) where
    -- the step as the loop reads it
    same_step : step_at w ss ws' p f ≡ step_at w ss ws p f
    same_step = step_same w ss ws ws' p f (r.later f (omega arith))

    -- there is room for what it tells
    pub fits_next : (t : Step) → t ≡ step_at w ss ws' p f → at + t.times ≤ length (deltas_on w ss ws)
    fits_next t e = omega (arith, r.left, count_next w ss ws p f t (e ∙ same_step) more)

    next_with : let t = step_at w ss ws p f in
        Writing w ss ws fs ds (set ws' f t.weight) (sets fs' at (range (w.first + f * w.subsampling) t.times)) (sets ds' at (replicate t.times t.delta)) (at + t.times) t.weight (f + 1)
    next_with =
        let t = step_at w ss ws p f in
        let b = w.first + f * w.subsampling in
        let rest = deltas_left w ss ws t.weight (f + 1) in
        let n : deltas_left w ss ws p f ≡ told_at w f t ++ rest = deltas_next w ss ws p f more in
        let x : firsts (deltas_left w ss ws p f) ≡ range b t.times ++ firsts rest
        = ap firsts n ∙ map_append (λ (d : ℕ × Float). d.0) (told_at w f t) rest
        ∙ ap (λ (l : List ℕ). l ++ firsts rest) (told_firsts b t.delta 0 t.times ∙ ap (λ (c : ℕ). range c t.times) (add-zero b)) in
        let y : seconds (deltas_left w ss ws p f) ≡ replicate t.times t.delta ++ seconds rest
        = ap seconds n ∙ map_append (λ (d : ℕ × Float). d.1) (told_at w f t) rest ∙ ap (λ (l : List Float). l ++ seconds rest) (told_seconds b t.delta 0 t.times) in
        record {
          upto = omega arith;
          as_many = length-set ws' f t.weight ∙ r.as_many;
          as_frames = length-sets fs' at (range b t.times) ∙ r.as_frames;
          as_deltas = length-sets ds' at (replicate t.times t.delta) ∙ r.as_deltas;
          left = omega (arith, r.left, count_next w ss ws p f t refl more);
          later = λ k l. get_or-set_other ws' f k t.weight nan (λ e. omega arith) ∙ r.later k (omega arith);
          weights = ap (λ (k : ℕ). sets (set ws' f t.weight) k (weights_left w ss ws t.weight (f + 1))) (add-one f) ∙ ap (sets ws' f) (sym (weights_next w ss ws p f more)) ∙ r.weights;
          frames = run_next fs' at (range b t.times) (firsts rest) t.times (run_length b t.times) ∙ ap (sets fs' at) (sym x) ∙ r.frames;
          deltas = run_next ds' at (replicate t.times t.delta) (seconds rest) t.times (length-replicate t.times t.delta) ∙ ap (sets ds' at) (sym y) ∙ r.deltas;
        }

    -- what one turn of the loop leaves
    pub writing_next : (t : Step) (ws'' : List Float) (fs'' : List ℕ) (ds'' : List Float) → t ≡ step_at w ss ws' p f → ws'' ≡ set ws' f t.weight
        → fs'' ≡ sets fs' at (range (w.first + f * w.subsampling) t.times) → ds'' ≡ sets ds' at (replicate (at + t.times - at) t.delta)
        → Writing w ss ws fs ds ws'' fs'' ds'' (at + t.times) t.weight (f + 1)
    writing_next t ws'' fs'' ds'' ht hw hf hd =
        let e : at + t.times - at ≡ t.times = omega arith in
        let g : ds'' ≡ sets ds' at (replicate t.times t.delta) = hd ∙ ap (λ (n : ℕ). sets ds' at (replicate n t.delta)) e in
        rw (hw, hf, g) (subst
        (λ (t : Step). Writing w ss ws fs ds (set ws' f t.weight) (sets fs' at (range (w.first + f * w.subsampling) t.times)) (sets ds' at (replicate t.times t.delta)) (at + t.times) t.weight (f + 1))
        (sym (ht ∙ same_step)) next_with)
