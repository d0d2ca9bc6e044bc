-- The segments stored one after the other are the definition's traceback, over a list grown with unknown frames. Assumes nothing.
use mathlib.Core.Path.{◌≡◌, refl, sym, ap, ap₂, ◌∙◌}
use mathlib.Core.Logic.{◌⊎◌, inl, inr}
use Prim.Native.Nat.{ℕ, zero, suc, ◌+◌, ◌-◌, ◌≤◌, ◌<◌, min, max}
use native.Mathlib.Nat.{add-zero, zero-add}
use native.Mathlib.Omega.{arith}
use mathlib.Core.Bool.{Bool, true, false, not, cond}
use mathlib.Core.List.{List, [], ◌∷◌, ◌++◌, map}
use lib.IntN.{ℤ, pos}
use lib.Dec.{ltb, eqb}
use lib.ListN.{length, get_or, drop, replicate, length-append, length-replicate, get_or-replicate, get_or-append}
use lib.Seq.{sets, ext_get_or, get_or-append-add, length-sets}
use lib.Ieee.{Float, nan}
use borrow.Author.Tests.{lt-ltb, le-ltb, le-leb, lt-leb}
use Rattle.lists.specs.Lists.{range}
use Rattle.lists.specs.Tests.{case, lt_or_le}
use Rattle.model.specs.Basics.{0f}
use Rattle.model.specs.Reads.{Segment}
use Rattle.model.specs.Silence.{FrameInfo, unknown, with_info, grown, covers, told, tell_from, is_silence}
use Rattle.silence_weighting.specs.declared.SilenceWeighting.{SilenceWeighting}
use Rattle.silence_weighting.specs.State.{frame_at, info_of, state_of, segment_count}
use Rattle.silence_weighting.specs.Parts.{status_of, told_to, grown_at}
use Rattle.silence_weighting.proofs.Segments.{segments_from, one_left, none_left}
use Rattle.lists.specs.Parts.{range_at, range_many}
use Rattle.lists.specs.Sets.{sets_off, sets_on}
use Rattle.silence_weighting.proofs.Runs.{range_same, drop_sets}

ap₃ : {A B C D : Type 0} (f : A → B → C → D) {a a' : A} {b b' : B} {c c' : C} → a ≡ a' → b ≡ b' → c ≡ c' → f a b c ≡ f a' b' c'
ap₃ f p q r = λ i. f (p i) (q i) (r i)

-- ---- the list grown

pub in_list : (m : ℕ) (ss : List ℕ) (ws : List Float) (k : ℕ) → k < m → grown_at m ss ws k ≡ frame_at ss ws k
unfolding grown_at
in_list m ss ws k h = rw (lt-ltb k m h)

pub past_list : (m : ℕ) (ss : List ℕ) (ws : List Float) (k : ℕ) → m ≤ k → grown_at m ss ws k ≡ unknown
unfolding grown_at
past_list m ss ws k h = rw (le-ltb k m h)

module _ (m n : ℕ) (ss : List ℕ) (ws : List Float) where
  pub grown-length : length (grown n (info_of m ss ws)) ≡ max m n
  unfolding info_of
  grown-length =
      let i : List FrameInfo = map (frame_at ss ws) (range 0 m) in
      length-append i (replicate (n - length i) unknown)
      ∙ omega (arith, range_many (frame_at ss ws) 0 m, length-replicate (n - length i) unknown)

  grown_at_lem : (k : ℕ) → k < max m n → get_or (grown n (info_of m ss ws)) k unknown ≡ grown_at m ss ws k
  unfolding info_of
  grown_at_lem k h =
      let i : List FrameInfo = map (frame_at ss ws) (range 0 m) in
      let rest : List FrameInfo = replicate (n - length i) unknown in
      let l = range_many (frame_at ss ws) 0 m in
      case (lt_or_le k m)
      (λ u. get_or-append i rest unknown k (omega arith) ∙ range_at (frame_at ss ws) 0 m k unknown u ∙ rw zero-add (sym (in_list m ss ws k u)))
      (λ u.
      let e : k ≡ length i + (k - m) = omega arith in
      ap (λ (j : ℕ). get_or (i ++ rest) j unknown) e ∙ get_or-append-add i rest (k - m) unknown ∙ get_or-replicate (n - length i) (k - m) unknown unknown (omega arith)
      ∙ sym (past_list m ss ws k u))

  pub grown_is : grown n (info_of m ss ws) ≡ map (grown_at m ss ws) (range 0 (max m n))
  grown_is =
      ext_get_or unknown (grown n (info_of m ss ws)) (map (grown_at m ss ws) (range 0 (max m n))) (grown-length ∙ sym (range_many (grown_at m ss ws) 0 (max m n)))
      (λ k h. let u : k < max m n = omega (arith, grown-length) in grown_at_lem k u ∙ sym (range_at (grown_at m ss ws) 0 (max m n) k unknown u ∙ ap (grown_at m ss ws) (zero-add k)))

-- ---- stores of a status

-- a frame of this status and weight
abbrev frame_of : ℕ → Float → FrameInfo
frame_of s w = record { known = not (eqb s 0); silence = eqb s 2; weight = w }

-- what is stored from a up to b, and nothing else
pub stored_in : {A : Type 0} (xs : List A) (a b : ℕ) (v d : A) (k : ℕ) → b ≤ length xs → a ≤ k → k < b → get_or (sets xs a (replicate (b - a) v)) k d ≡ v
stored_in xs a b v d k h l u =
    let e : k ≡ a + (k - a) = omega arith in
    let n = length-replicate (b - a) v in
    ap (λ (j : ℕ). get_or (sets xs a (replicate (b - a) v)) j d) e
    ∙ sets_on (replicate (b - a) v) xs a (k - a) d (omega arith) (omega arith)
    ∙ get_or-replicate (b - a) (k - a) v d (omega arith)

pub stored_out : {A : Type 0} (xs : List A) (a b : ℕ) (v d : A) (k : ℕ) → (k < a) ⊎ (b ≤ k) → get_or (sets xs a (replicate (b - a) v)) k d ≡ get_or xs k d
stored_out xs a b v d k (inl u) = sets_off (replicate (b - a) v) xs a k d (inl u)
stored_out xs a b v d k (inr u) =
    let n = length-replicate (b - a) v in
    case (lt_or_le k a) (λ l. sets_off (replicate (b - a) v) xs a k d (inl l)) (λ l. sets_off (replicate (b - a) v) xs a k d (inr (omega arith)))

pub drop_stored : {A : Type 0} (xs : List A) (a b : ℕ) (v : A) (t : ℕ) → b ≤ t → drop t (sets xs a (replicate (b - a) v)) ≡ drop t xs
drop_stored xs a b v t h = case (lt_or_le a b)
    (λ l. drop_sets t xs a (replicate (b - a) v) (omega (arith, length-replicate (b - a) v)))
    (λ l. let e : b - a ≡ 0 = omega arith in rw e)

-- the unknown frames are stored as such
grown_stored : (m n : ℕ) (ss : List ℕ) (ws : List Float) → n ≤ length ss → n ≤ length ws
    → info_of (max m n) (sets ss m (replicate (n - m) 0)) (sets ws m (replicate (n - m) 0f)) ≡ grown n (info_of m ss ws)
unfolding info_of
grown_stored m n ss ws hs hw =
    let ss' = sets ss m (replicate (n - m) 0) in
    let ws' = sets ws m (replicate (n - m) 0f) in
    range_same (frame_at ss' ws') (grown_at m ss ws) 0 (max m n)
    (λ k l u. case (lt_or_le k m)
    (λ h. ap₂ frame_of (stored_out ss m n 0 0 k (inl h)) (stored_out ws m n 0f nan k (inl h)) ∙ sym (in_list m ss ws k h))
    (λ h. ap₂ frame_of (stored_in ss m n 0 0 k hs h (omega arith)) (stored_in ws m n 0f nan k hw h (omega arith)) ∙ sym (past_list m ss ws k h)))
    ∙ sym (grown_is m n ss ws)

-- ---- the traceback

-- the definition's list, frame by frame
tell_at : (ps : List ℤ) (rest : List Segment) (n f : ℕ) (is : List FrameInfo) (k : ℕ) → k < length is
    → get_or (tell_from ps rest n f is) k unknown ≡ cond (ltb (f + k) n) (told ps rest (f + k) (get_or is k unknown)) (get_or is k unknown)
tell_at ps rest n f [] k h = absurd (omega arith)
tell_at ps rest n f (i ∷ is) zero h = rw add-zero
tell_at ps rest n f (i ∷ is) (suc k) h = let e : f + suc k ≡ suc f + k = omega arith in rw e (tell_at ps rest n (suc f) is k (omega arith))

pub tell-length : (ps : List ℤ) (rest : List Segment) (n f : ℕ) (is : List FrameInfo) → length (tell_from ps rest n f is) ≡ length is
tell-length ps rest n f [] = refl
tell-length ps rest n f (i ∷ is) = ap suc (tell-length ps rest n (suc f) is)

cond_same : {A : Type 0} (b : Bool) (x : A) → x ≡ cond b x x
cond_same true x = refl
cond_same false x = refl

tell_none : (ps : List ℤ) (n f : ℕ) (is : List FrameInfo) → is ≡ tell_from ps [] n f is
unfolding told
tell_none ps n f [] = refl
tell_none ps n f (i ∷ is) = ap₂ (λ (j : FrameInfo) (js : List FrameInfo). j ∷ js) (cond_same (ltb f n) i) (tell_none ps n (suc f) is)

-- one segment and then the rest
tell-cons : (ps : List ℤ) (s : Segment) (rest : List Segment) (n f : ℕ) (is : List FrameInfo)
    → tell_from ps rest n f (tell_from ps (s ∷ []) n f is) ≡ tell_from ps (s ∷ rest) n f is
unfolding told
tell-cons ps s rest n f [] = refl
tell-cons ps s rest n f (i ∷ is) = ap₂ (λ (j : FrameInfo) (js : List FrameInfo). j ∷ js) (go (ltb f n)) (tell-cons ps s rest n (suc f) is)
  where
    j : FrameInfo
    j = cond (covers s f) (record { known = true; silence = is_silence ps s.phone; weight = i.weight }) i

    go : (b : Bool) → cond b (told ps rest f (cond b j i)) (cond b j i) ≡ cond b (told ps rest f j) i
    go true = refl
    go false = refl

-- the status of a phone says what is known of its frames
frame_told : (ps : List ℤ) (p : ℤ) (w : Float) → frame_of (status_of ps p) w ≡ record { known = true; silence = is_silence ps p; weight = w }
unfolding status_of
frame_told ps p w = go (is_silence ps p)
  where
    go : (b : Bool) → frame_of (cond b 2 1) w ≡ record { known = true; silence = b; weight = w }
    go true = refl
    go false = refl

module _ (ps : List ℤ) (s : Segment) (n : ℕ) (ss : List ℕ) (ws : List Float) (fits : n ≤ length ss) where
  abbrev v : ℕ
  v = status_of ps s.phone

  abbrev b : ℕ
  b = min s.end n

  one_at : (k : ℕ) → frame_at (sets ss s.start (replicate (b - s.start) v)) ws k ≡ cond (ltb k n) (told ps (s ∷ []) k (frame_at ss ws k)) (frame_at ss ws k)
  unfolding told
  one_at k =
      let out : (k < s.start) ⊎ (b ≤ k) → frame_at (sets ss s.start (replicate (b - s.start) v)) ws k ≡ frame_at ss ws k
      = λ h. ap (λ (x : ℕ). frame_of x (get_or ws k nan)) (stored_out ss s.start b v 0 k h) in
      case (lt_or_le k n)
      (λ hn. case (lt_or_le k s.start)
      (λ hs. out (inl hs) ∙ rw (lt-ltb k n hn, lt-leb s.start k hs))
      (λ hs. case (lt_or_le k s.end)
      (λ he.
      ap (λ (x : ℕ). frame_of x (get_or ws k nan)) (stored_in ss s.start b v 0 k (omega arith) hs (omega arith)) ∙ frame_told ps s.phone (get_or ws k nan)
      ∙ rw (lt-ltb k n hn, le-leb s.start k hs, lt-ltb k s.end he))
      (λ he. out (inr (omega arith)) ∙ rw (lt-ltb k n hn, le-leb s.start k hs, le-ltb k s.end he))))
      (λ hn. out (inr (omega arith)) ∙ rw (le-ltb k n hn))

  one_told : (m : ℕ) → info_of m (sets ss s.start (replicate (b - s.start) v)) ws ≡ tell_from ps (s ∷ []) n 0 (info_of m ss ws)
  unfolding info_of
  one_told m =
      let is = map (frame_at ss ws) (range 0 m) in
      let ss' = sets ss s.start (replicate (b - s.start) v) in
      let l = range_many (frame_at ss ws) 0 m in
      let l' = range_many (frame_at ss' ws) 0 m in
      ext_get_or unknown (map (frame_at ss' ws) (range 0 m)) (tell_from ps (s ∷ []) n 0 is) (omega (arith, tell-length ps (s ∷ []) n 0 is))
      (λ k h.
      let u : k < m = omega arith in
      let x : get_or is k unknown ≡ frame_at ss ws k = range_at (frame_at ss ws) 0 m k unknown u ∙ ap (frame_at ss ws) (zero-add k) in
      let y : get_or (tell_from ps (s ∷ []) n 0 is) k unknown ≡ cond (ltb k n) (told ps (s ∷ []) k (frame_at ss ws k)) (frame_at ss ws k)
      = tell_at ps (s ∷ []) n 0 is k (omega arith) ∙ rw (zero-add, x) in
      range_at (frame_at ss' ws) 0 m k unknown u ∙ ap (frame_at ss' ws) (zero-add k) ∙ one_at k ∙ sym y)

told_stored : (ps : List ℤ) (rest : List Segment) (n m : ℕ) (ss : List ℕ) (ws : List Float) → n ≤ length ss
    → info_of m (told_to ps rest n ss) ws ≡ tell_from ps rest n 0 (info_of m ss ws)
unfolding told_to
told_stored ps [] n m ss ws h = tell_none ps n 0 (info_of m ss ws)
told_stored ps (s ∷ rest) n m ss ws h =
    let ss' = sets ss s.start (replicate (min s.end n - s.start) (status_of ps s.phone)) in
    told_stored ps rest n m ss' ws (omega (arith, length-sets ss s.start (replicate (min s.end n - s.start) (status_of ps s.phone))))
    ∙ ap (tell_from ps rest n 0) (one_told ps s n ss ws h m)
    ∙ tell-cons ps s rest n 0 (info_of m ss ws)

told_behind : (ps : List ℤ) (rest : List Segment) (n t : ℕ) (ss : List ℕ) → n ≤ t → drop t (told_to ps rest n ss) ≡ drop t ss
unfolding told_to
told_behind ps [] n t ss h = refl
told_behind ps (s ∷ rest) n t ss h =
    told_behind ps rest n t (sets ss s.start (replicate (min s.end n - s.start) (status_of ps s.phone))) h
    ∙ drop_stored ss s.start (min s.end n) (status_of ps s.phone) t (omega arith)

-- ---- what the whole call stores

module _ (ps : List ℤ) (s : SilenceWeighting) (rest : List Segment) (n : ℕ) (ss : List ℕ) (ws : List Float) (t : ℕ) (ss₁ ss' : List ℕ) (ws' : List Float)
    (ht : t ≡ max s.frames n) (h₁ : ss₁ ≡ sets ss s.frames (replicate (n - s.frames) 0)) (hs : ss' ≡ told_to ps rest n ss₁) (hw : ws' ≡ sets ws s.frames (replicate (n - s.frames) 0f)) where
  pub traced_state : n ≤ length ss → n ≤ length ws
      → state_of ps (record { weight = s.weight; subsampling = s.subsampling; frames = t }) ss' ws' ≡ with_info (state_of ps s ss ws) (tell_from ps rest n 0 (grown n (state_of ps s ss ws).info))
  unfolding state_of
  traced_state l k =
      let m : n ≤ length ss₁ = omega (arith, ap length h₁ ∙ length-sets ss s.frames (replicate (n - s.frames) 0)) in
      let e : info_of t ss' ws' ≡ tell_from ps rest n 0 (grown n (info_of s.frames ss ws))
      = ap (λ (xs : List ℕ). info_of t xs ws') hs ∙ told_stored ps rest n t ss₁ ws' m
      ∙ ap (tell_from ps rest n 0) (ap₃ info_of ht h₁ hw ∙ grown_stored s.frames n ss ws l k) in
      ap (with_info (state_of ps s ss ws)) e

  pub traced_behind : (drop t ss' ≡ drop t ss) × (drop t ws' ≡ drop t ws)
  traced_behind = (
    ap (drop t) hs ∙ told_behind ps rest n t ss₁ (omega arith) ∙ ap (drop t) h₁ ∙ drop_stored ss s.frames n 0 t (omega arith),
    ap (drop t) hw ∙ drop_stored ws s.frames n 0f t (omega arith),
  )

-- ---- one turn of the loop over the segments

module _ (sil ps : List ℤ) (ss es : List ℕ) (n k : ℕ) (status : List ℕ) where
  pub told_next : (v b : ℕ) (status' : List ℕ) → k < segment_count ps ss es → v ≡ status_of sil (get_or ps k (pos 0)) → b ≡ min (get_or es k 0) n
      → status' ≡ sets status (get_or ss k 0) (replicate (b - get_or ss k 0) v) → told_to sil (segments_from ps ss es (k + 1)) n status' ≡ told_to sil (segments_from ps ss es k) n status
  unfolding told_to
  told_next v b status' h hv hb hs = rw (one_left ps ss es k h, hs, hb, hv)

  pub told_done : segment_count ps ss es ≤ k → told_to sil (segments_from ps ss es k) n status ≡ status
  unfolding told_to
  told_done h = rw (none_left ps ss es k h)
