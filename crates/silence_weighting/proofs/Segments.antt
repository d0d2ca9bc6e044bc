-- The segments, one after the other: what is left of them from the i-th on. Assumes nothing.
use mathlib.Core.Path.{◌≡◌, refl, sym, ap, ◌∙◌}
use Prim.Native.Nat.{ℕ, suc, ◌+◌, ◌-◌, ◌≤◌, ◌<◌}
use native.Mathlib.Nat.{sub-zero, zero-add}
use native.Mathlib.Numerals.{add-one}
use native.Mathlib.Omega.{arith}
use mathlib.Core.Bool.{true, false}
use mathlib.Core.List.{List, [], ◌∷◌, ◌++◌, map, reverse, reverse_aux}
use lib.IntN.{ℤ, pos}
use lib.Dec.{ltb}
use lib.ListN.{length, get_or}
use borrow.Author.Tests.{lt-ltb, le-ltb, ltb-false}
use Rattle.lists.specs.Lists.{any, range}
use Rattle.lists.specs.Members.{any_no, at_member}
use Rattle.lists.specs.Tests.{or_neither}
use Rattle.model.specs.Reads.{Segment}
use Rattle.model.specs.Silence.{bad_segment, bad_segments, is_silence, trailing}
use Rattle.silence_weighting.specs.State.{segment_at, segment_count, segments_of}
use Rattle.lists.specs.Parts.{range_at, range_many}
use Rattle.silence_weighting.proofs.Runs.{range_next, range_done, range_last}

abbrev pub segments_from : (phones : List ℤ) → (starts ends : List ℕ) → ℕ → List Segment
segments_from ps ss es i = map (segment_at ps ss es) (range i (segment_count ps ss es - i))

module _ (ps : List ℤ) (ss es : List ℕ) where
  pub all_left : segments_of ps ss es ≡ segments_from ps ss es 0
  unfolding segments_of
  all_left = rw sub-zero

  pub one_left : (i : ℕ) → i < segment_count ps ss es → segments_from ps ss es i ≡ segment_at ps ss es i ∷ segments_from ps ss es (i + 1)
  one_left i h = rw (add-one, range_next i (segment_count ps ss es) h)

  pub none_left : (i : ℕ) → segment_count ps ss es ≤ i → segments_from ps ss es i ≡ []
  none_left i h = rw (range_done i (segment_count ps ss es) h)

  segments_count : length (segments_of ps ss es) ≡ segment_count ps ss es
  unfolding segments_of
  segments_count = range_many (segment_at ps ss es) 0 (segment_count ps ss es)

  -- ---- 10

  pub over : 65_536 < segment_count ps ss es → bad_segments (segments_of ps ss es) ≡ true
  unfolding bad_segments
  over h = rw (segments_count, lt-ltb 65_536 (segment_count ps ss es) h)

  pub within : segment_count ps ss es ≤ 65_536 → bad_segments (segments_of ps ss es) ≡ any bad_segment (segments_from ps ss es 0)
  unfolding bad_segments
  within h = rw (segments_count, le-ltb 65_536 (segment_count ps ss es) h, all_left)

  pub bad_here : (i : ℕ) → i < segment_count ps ss es → bad_segment (segment_at ps ss es i) ≡ true → any bad_segment (segments_from ps ss es i) ≡ true
  bad_here i h e = rw (one_left i h, e)

  pub good_here : (i : ℕ) → i < segment_count ps ss es → get_or ss i 0 ≤ get_or es i 0 → get_or es i 0 ≤ 65_536
      → any bad_segment (segments_from ps ss es i) ≡ any bad_segment (segments_from ps ss es (i + 1))
  good_here i h p q = rw (one_left i h, le-ltb (get_or es i 0) (get_or ss i 0) p, le-ltb 65_536 (get_or es i 0) q)

  pub good_all : (i : ℕ) → segment_count ps ss es ≤ i → any bad_segment (segments_from ps ss es i) ≡ false
  good_all i h = rw (none_left i h)

  good_each : bad_segments (segments_of ps ss es) ≡ false → (ltb 65_536 (length (segments_of ps ss es)) ≡ false) × (any bad_segment (segments_of ps ss es) ≡ false)
  unfolding bad_segments
  good_each e = or_neither (ltb 65_536 (length (segments_of ps ss es))) (any bad_segment (segments_of ps ss es)) e

  pub good_count : bad_segments (segments_of ps ss es) ≡ false → segment_count ps ss es ≤ 65_536
  good_count e = omega (arith, ltb-false 65_536 (length (segments_of ps ss es)) (good_each e).0, segments_count)

  pub good_at : bad_segments (segments_of ps ss es) ≡ false → (j : ℕ) → j < segment_count ps ss es → (get_or ss j 0 ≤ get_or es j 0) × (get_or es j 0 ≤ 65_536)
  unfolding segments_of
  good_at e j h =
      let d = segment_at ps ss es j in
      let xs = map (segment_at ps ss es) (range 0 (segment_count ps ss es)) in
      let q : get_or xs j d ≡ d = range_at (segment_at ps ss es) 0 (segment_count ps ss es) j d h ∙ ap (segment_at ps ss es) (zero-add j) in
      let b : bad_segment d ≡ false = ap bad_segment (sym q) ∙ any_no bad_segment xs (good_each e).1 (get_or xs j d) (at_member xs j d (omega (arith, segments_count))) in
      let (x, y) = or_neither (ltb (get_or es j 0) (get_or ss j 0)) (ltb 65_536 (get_or es j 0)) b in
      (ltb-false (get_or es j 0) (get_or ss j 0) x, ltb-false 65_536 (get_or es j 0) y)

-- ---- from the end

reverse_last : {A : Type 0} (xs : List A) (x : A) (r : List A) → reverse_aux (xs ++ (x ∷ [])) r ≡ x ∷ reverse_aux xs r
reverse_last [] x r = refl
reverse_last (y ∷ xs) x r = reverse_last xs x (y ∷ r)

-- the first i, from the last to the first
abbrev pub segments_back : (phones : List ℤ) → (starts ends : List ℕ) → ℕ → List Segment
segments_back ps ss es i = reverse (map (segment_at ps ss es) (range 0 i))

module _ (sil ps : List ℤ) (ss es : List ℕ) where
  pub back_all : (n : ℕ) → n ≡ segment_count ps ss es → segments_back ps ss es n ≡ reverse (segments_of ps ss es)
  unfolding segments_of
  back_all n e = rw e

  pub silent_none : (i : ℕ) → i ≡ 0 → trailing sil (segments_back ps ss es i) ≡ 0
  silent_none i e = rw e

  module _ (i : ℕ) (some : 0 < i) where
    back_next : segments_back ps ss es i ≡ segment_at ps ss es (i - 1) ∷ segments_back ps ss es (i - 1)
    back_next =
        let e : i ≡ suc (i - 1) = omega arith in
        ap (segments_back ps ss es) e
        ∙ ap reverse (range_last (segment_at ps ss es) 0 (i - 1)) ∙ reverse_last (map (segment_at ps ss es) (range 0 (i - 1))) (segment_at ps ss es (0 + (i - 1))) []
        ∙ ap (λ (k : ℕ). segment_at ps ss es k ∷ segments_back ps ss es (i - 1)) (zero-add (i - 1))

    pub silent_more : is_silence sil (get_or ps (i - 1) (pos 0)) ≡ true
        → trailing sil (segments_back ps ss es i) ≡ get_or es (i - 1) 0 - get_or ss (i - 1) 0 + trailing sil (segments_back ps ss es (i - 1))
    silent_more e = rw (back_next, e)

    pub silent_stop : is_silence sil (get_or ps (i - 1) (pos 0)) ≡ false → trailing sil (segments_back ps ss es i) ≡ 0
    silent_stop e = rw (back_next, e)
