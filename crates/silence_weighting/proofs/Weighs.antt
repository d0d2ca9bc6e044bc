-- The window's weights and differences, written, are the definition's. Assumes nothing.
use mathlib.Core.Path.{◌≡◌, refl, sym, ap, ap₂, ◌∙◌, subst}
use mathlib.Core.Logic.{inl}
use Prim.Native.Nat.{ℕ, zero, suc, ◌+◌, ◌-◌, ◌≤◌, ◌<◌, max}
use native.Mathlib.Nat.{add-zero, zero-add}
use native.Mathlib.Omega.{arith}
use mathlib.Core.Bool.{Bool, true, false, not, cond}
use mathlib.Core.List.{List, [], ◌∷◌, ◌++◌, map}
use lib.IntN.{ℤ}
use lib.Dec.{eqb}
use lib.ListN.{length, get_or, take, drop, replicate, length-map, get_or-map}
use lib.Seq.{sets, ext_get_or}
use lib.Ieee.{Float, nan}
use borrow.Author.Tests.{eqb-false}
use Rattle.lists.specs.Lists.{range}
use Rattle.lists.specs.Tests.{case, either, lt_or_le}
use Rattle.model.specs.Silence.{FrameInfo, SilenceWeighting as Weighting, unknown, with_info, weights_from, window_weights, deltas_from, reweighed, Deltas, deltas_of}
use Rattle.silence_weighting.specs.declared.SilenceWeighting.{SilenceWeighting}
use Rattle.silence_weighting.specs.State.{frame_at, info_of, state_of}
use Rattle.silence_weighting.specs.Answers.{deltas_in}
use Rattle.silence_weighting.specs.Parts.{grown_at, weight_of, weights_along, frames_from, weights_on, deltas_on, weight_before, window_of}
use Rattle.lists.specs.Parts.{range_at, range_many}
use Rattle.lists.specs.Sets.{sets_off, sets_on}
use Rattle.silence_weighting.proofs.Runs.{range-append, range-take, range-drop, range_same}
use Rattle.silence_weighting.proofs.Told.{in_list, past_list, grown_is, stored_in, stored_out}
use Rattle.silence_weighting.proofs.Writing.{firsts, seconds}

-- ---- the weights

along_known : (sil p : Float) (is : List FrameInfo) → weights_from sil p is ≡ weights_along sil false p is
unfolding weights_along weight_of
along_known sil p [] = refl
along_known sil p (i ∷ is) = let v = cond i.known (cond i.silence sil Rattle.model.specs.Basics.1f) p in ap (λ (r : List Float). v ∷ r) (along_known sil v is)

either_way : (b : Bool) (p : Float) → p ≡ cond b p p
either_way true p = refl
either_way false p = refl

along_unknown : (sil p : Float) (is : List FrameInfo) → replicate (length is) p ≡ weights_along sil true p is
unfolding weights_along weight_of
along_unknown sil p [] = refl
along_unknown sil p (i ∷ is) =
    ap (λ (r : List Float). p ∷ r) (along_unknown sil p is)
    ∙ ap (λ (v : Float). v ∷ weights_along sil true v is) (either_way i.known p)

along-length : (sil : Float) (u : Bool) (p : Float) (is : List FrameInfo) → length (weights_along sil u p is) ≡ length is
unfolding weights_along
along-length sil u p [] = refl
along-length sil u p (i ∷ is) = ap suc (along-length sil u (weight_of sil u p i) is)

window_weights_lem : (sil p : Float) (g : ℕ → FrameInfo) (a n : ℕ) → window_weights sil p (map g (range a n)) ≡ weights_along sil (not (g a).known) p (map g (range a n))
unfolding window_weights weights_along
window_weights_lem sil p g a zero = refl
window_weights_lem sil p g a (suc n) = go (g a).known
  where
    rest : List FrameInfo
    rest = map g (range (suc a) n)

    go : (b : Bool) → cond b (weights_from sil p (g a ∷ rest)) (replicate (suc (length rest)) p) ≡ weights_along sil (not b) p (g a ∷ rest)
    go true = along_known sil p (g a ∷ rest)
    go false = along_unknown sil p (g a ∷ rest)

-- ---- the frame list

abbrev reweigh : FrameInfo → Float → FrameInfo
reweigh i w = record { known = i.known; silence = i.silence; weight = w }

reweighed_is : (f g : ℕ → FrameInfo) (a n : ℕ) (vs : List Float) → length vs ≡ n → ((i : ℕ) → i < n → f (a + i) ≡ reweigh (g (a + i)) (get_or vs i nan))
    → map f (range a n) ≡ reweighed (map g (range a n)) vs
reweighed_is f g a zero vs l h = refl
reweighed_is f g a (suc n) [] l h = absurd (omega arith)
reweighed_is f g a (suc n) (v ∷ vs) l h =
    ap₂ (λ (x : FrameInfo) (r : List FrameInfo). x ∷ r) (subst (λ (k : ℕ). f k ≡ reweigh (g k) v) (add-zero a) (h 0 (omega arith)))
    (reweighed_is f g (suc a) n vs (omega arith)
    (λ i u. let e : a + suc i ≡ suc a + i = omega arith in subst (λ (k : ℕ). f k ≡ reweigh (g k) (get_or vs i nan)) e (h (suc i) (omega arith))))

-- of m frames listed and t in all, from b on the weights vs
module _ (m t b : ℕ) (ss : List ℕ) (ws vs : List Float) (hm : m ≤ t) (hb : b ≤ m) (hs : t ≤ length ss) (hw : t ≤ length ws) (hv : length vs ≡ t - b) where
  abbrev ss' : List ℕ
  ss' = sets ss m (replicate (t - m) 0)

  abbrev ws' : List Float
  ws' = sets ws b vs

  list_written : info_of t ss' ws' ≡ take b (map (grown_at m ss ws) (range 0 t)) ++ reweighed (map (grown_at m ss ws) (range b (t - b))) vs
  unfolding info_of
  list_written =
      let f = frame_at ss' ws' in
      let g = grown_at m ss ws in
      let e : b + (t - b) ≡ t = omega arith in
      let front : map f (range 0 b) ≡ map g (range 0 b) = range_same f g 0 b (λ k l u.
      let h : k < m = omega arith in
      ap₂ (λ (x : ℕ) (v : Float). record { known = not (eqb x 0); silence = eqb x 2; weight = v }) (stored_out ss m t 0 0 k (inl h)) (sets_off vs ws b k nan (inl (omega arith))) ∙ sym (in_list m ss ws k h)) in
      let back : map f (range b (t - b)) ≡ reweighed (map g (range b (t - b))) vs = reweighed_is f g b (t - b) vs hv (λ i u.
      let v : get_or ws' (b + i) nan ≡ get_or vs i nan = sets_on vs ws b i nan (omega arith) (omega arith) in
      case (lt_or_le (b + i) m)
      (λ h. ap₂ (λ (x : ℕ) (y : Float). record { known = not (eqb x 0); silence = eqb x 2; weight = y }) (stored_out ss m t 0 0 (b + i) (inl h)) v
      ∙ ap (λ (j : FrameInfo). reweigh j (get_or vs i nan)) (sym (in_list m ss ws (b + i) h)))
      (λ h. ap₂ (λ (x : ℕ) (y : Float). record { known = not (eqb x 0); silence = eqb x 2; weight = y }) (stored_in ss m t 0 0 (b + i) hs h (omega arith)) v
      ∙ ap (λ (j : FrameInfo). reweigh j (get_or vs i nan)) (sym (past_list m ss ws (b + i) h)))) in
      ap (λ (n : ℕ). map f (range 0 n)) (sym e) ∙ sym (range-append f 0 b (t - b)) ∙ ap (λ (k : ℕ). map f (range 0 b) ++ map f (range k (t - b))) (zero-add b)
      ∙ ap₂ (λ (x y : List FrameInfo). x ++ y) (front ∙ sym (range-take g 0 t b (omega arith))) back

-- ---- the definition's answer

-- the definition's, with the grown list and the window's begin at hand
abbrev deltas_with : Weighting → (first : ℕ) → List FrameInfo → (begin : ℕ) → Deltas
deltas_with s from i b =
    let prev = cond (eqb b 0) s.weight (get_or i (b - 1) unknown).weight in
    let vs = window_weights s.weight prev (drop b i) in
    record { state = with_info s (take b i ++ reweighed (drop b i) vs); deltas = deltas_from s.subsampling from b (drop b i) vs }

module _ (s : SilenceWeighting) (n from : ℕ) (ss : List ℕ) (ws : List Float) where
  abbrev total : ℕ
  total = max s.frames n

  abbrev begin : ℕ
  begin = s.frames - 100

  abbrev grown_list : List FrameInfo
  grown_list = map (grown_at s.frames ss ws) (range 0 total)

  -- the weight before the window
  before_is : cond (eqb begin 0) s.weight (get_or grown_list (begin - 1) unknown).weight ≡ weight_before s.weight ws begin
  unfolding weight_before
  before_is = case (either (eqb begin 0)) (λ e. rw e) (λ e.
      let d : begin ≡ 0 → ⊥ = eqb-false begin 0 e in
      let h : 0 < begin = omega arith in
      let x : get_or grown_list (begin - 1) unknown ≡ frame_at ss ws (begin - 1)
      = range_at (grown_at s.frames ss ws) 0 total (begin - 1) unknown (omega arith) ∙ ap (grown_at s.frames ss ws) (zero-add (begin - 1)) ∙ in_list s.frames ss ws (begin - 1) (omega arith) in
      ap (λ (i : FrameInfo). cond (eqb begin 0) s.weight i.weight) x)

  window_frames : drop begin grown_list ≡ frames_from (window_of s n from ss ws) ss ws begin
  unfolding window_of
  window_frames = range-drop (grown_at s.frames ss ws) 0 total begin ∙ ap (λ (k : ℕ). map (grown_at s.frames ss ws) (range k (total - begin))) (zero-add begin)

  -- its weights and its differences
  window_weights_are : window_weights s.weight (cond (eqb begin 0) s.weight (get_or grown_list (begin - 1) unknown).weight) (drop begin grown_list) ≡ weights_on (window_of s n from ss ws) ss ws
  unfolding window_of weights_on
  window_weights_are = ap₂ (window_weights s.weight) before_is window_frames ∙ window_weights_lem s.weight (weight_before s.weight ws begin) (grown_at s.frames ss ws) begin (total - begin)

  pub weights-length : length (weights_on (window_of s n from ss ws) ss ws) ≡ total - begin
  unfolding window_of weights_on
  weights-length = along-length s.weight _ _ (frames_from (window_of s n from ss ws) ss ws begin) ∙ range_many (grown_at s.frames ss ws) begin (total - begin)

  window_deltas_are : deltas_from s.subsampling from begin (drop begin grown_list) (weights_on (window_of s n from ss ws) ss ws) ≡ deltas_on (window_of s n from ss ws) ss ws
  unfolding window_of weights_on deltas_on
  window_deltas_are = ap (λ (i : List FrameInfo). deltas_from s.subsampling from begin i (weights_on (window_of s n from ss ws) ss ws)) window_frames

  module _ (ps : List ℤ) where
    info-length : length (state_of ps s ss ws).info ≡ s.frames
    unfolding state_of info_of
    info-length = range_many (frame_at ss ws) 0 s.frames

    deltas_with_lem : deltas_of (state_of ps s ss ws) n from ≡ deltas_with (state_of ps s ss ws) from grown_list begin
    unfolding deltas_of state_of
    deltas_with_lem = ap₂ (deltas_with (state_of ps s ss ws) from) (grown_is s.frames n ss ws) (ap (λ (k : ℕ). k - 100) info-length)

    pub deltas_told : (deltas_of (state_of ps s ss ws) n from).deltas ≡ deltas_on (window_of s n from ss ws) ss ws
    unfolding state_of
    deltas_told =
        ap (λ (d : Deltas). d.deltas) deltas_with_lem
        ∙ ap (deltas_from s.subsampling from begin (drop begin grown_list)) window_weights_are
        ∙ window_deltas_are

    pub deltas_are_lem : n ≤ length ss → n ≤ length ws → s.frames ≤ length ss → s.frames ≤ length ws
        → deltas_of (state_of ps s ss ws) n from
        ≡ record {
          state = state_of ps (record { weight = s.weight; subsampling = s.subsampling; frames = total }) (sets ss s.frames (replicate (total - s.frames) 0)) (sets ws begin (weights_on (window_of s n from ss ws) ss ws));
          deltas = deltas_on (window_of s n from ss ws) ss ws;
        }
    unfolding state_of window_of
    deltas_are_lem h₁ h₂ h₃ h₄ =
        let b = begin in
        let g = grown_list in
        let vs = weights_on (window_of s n from ss ws) ss ws in
        let list : take b g ++ reweighed (drop b g) vs ≡ info_of total (sets ss s.frames (replicate (total - s.frames) 0)) (sets ws b vs)
        = ap (λ (i : List FrameInfo). take b g ++ reweighed i vs) window_frames
        ∙ sym (list_written s.frames total b ss ws vs (omega arith) (omega arith) (omega arith) (omega arith) weights-length) in
        deltas_with_lem
        ∙ ap (λ (v : List Float). record { state = with_info (state_of ps s ss ws) (take b g ++ reweighed (drop b g) v); deltas = deltas_from s.subsampling from b (drop b g) v }) window_weights_are
        ∙ ap₂ (λ (x : List FrameInfo) (y : List (ℕ × Float)). record { state = with_info (state_of ps s ss ws) x; deltas = y }) list window_deltas_are

-- ---- the output

pair_at_lem : (ds : List (ℕ × Float)) (k : ℕ) → (get_or (firsts ds) k 0, get_or (seconds ds) k nan) ≡ get_or ds k (0, nan)
pair_at_lem ds k = ap₂ (λ (x : ℕ) (y : Float). (x, y)) (get_or-map (λ (d : ℕ × Float). d.0) ds k (0, nan)) (get_or-map (λ (d : ℕ × Float). d.1) ds k (0, nan))

pub read_back : (ds : List (ℕ × Float)) (fs : List ℕ) (xs : List Float) → length ds ≤ length fs → length ds ≤ length xs
    → deltas_in (length ds) (sets fs 0 (firsts ds)) (sets xs 0 (seconds ds)) ≡ ds
unfolding deltas_in
read_back ds fs xs hf hx =
    let fs' = sets fs 0 (firsts ds) in
    let xs' = sets xs 0 (seconds ds) in
    let h : ℕ → ℕ × Float = λ k. (get_or fs' k 0, get_or xs' k nan) in
    let l = range_many h 0 (length ds) in
    let lf = length-map ds (λ (d : ℕ × Float). d.0) in
    let lx = length-map ds (λ (d : ℕ × Float). d.1) in
    ext_get_or (0, nan) (map h (range 0 (length ds))) ds l (λ k u.
    let v : k < length ds = omega arith in
    let x : get_or fs' k 0 ≡ get_or (firsts ds) k 0 = subst (λ (j : ℕ). get_or fs' j 0 ≡ get_or (firsts ds) k 0) (zero-add k) (sets_on (firsts ds) fs 0 k 0 (omega arith) (omega arith)) in
    let y : get_or xs' k nan ≡ get_or (seconds ds) k nan = subst (λ (j : ℕ). get_or xs' j nan ≡ get_or (seconds ds) k nan) (zero-add k) (sets_on (seconds ds) xs 0 k nan (omega arith) (omega arith)) in
    range_at h 0 (length ds) k (0, nan) v ∙ ap h (zero-add k) ∙ ap₂ (λ (a : ℕ) (b : Float). (a, b)) x y ∙ pair_at_lem ds k)
