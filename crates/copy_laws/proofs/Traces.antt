-- The Rust's `trace`: on a token's own path no record starts the phone that is open, so the test for that, which the definition and the Rust's `trace_route` have and `trace` has not, changes nothing. Assumes nothing.
use Rattle.std.specs.Prelude.{◌≡◌, refl, ℕ, suc, Bool, true, false, not, ◌&&◌, cond, ℤ, pos, Float}
use Rattle.std.proofs.Common.{sym, ◌∙◌, subst}
use Rattle.std.proofs.Math.Path.{ap}
use mathlib.Core.List.{List, [], ◌∷◌, ◌++◌, map}
use Rattle.lists.specs.Tests.{never}
use Rattle.model.specs.Basics.{eqℤ, nonzero}
use Rattle.model.specs.Graph.{Graph}
use Rattle.model.specs.Path.{Path, empty_path, arc_onto, branch_on}
use Rattle.model.specs.Reads.{Rec, recs_on, word_recs, phone_recs, segments, trace}
use Rattle.model.specs.Checked.{GoodGraph}
use Rattle.copy_laws.proofs.Labels.{eqℤ_same}
use Rattle.copy_laws.specs.Walks.{Leads, emitted}
use Rattle.copy_laws.specs.Routes.{arcs}
use Rattle.copy_laws.specs.Shapes.{Marked}
use Rattle.copy_laws.specs.Segments.{phones_on, Marks, marks_end, marks_epsilon, marks_emitting}
use Rattle.copy_laws.proofs.Segments.{own_marks}
use Rattle.copy_laws.specs.Traces.{own_recs, opens, own_trace, NeverMerges}

merges_none : (ph z : ℤ) (r : Rec) (rs : List Rec) → r.phone ≡ z → (nonzero z ≡ true → eqℤ z ph ≡ false) → NeverMerges (cond (nonzero z) z ph) rs → NeverMerges ph (r ∷ rs)
merges_none ph z r rs e f d = subst (λ (y : ℤ). (nonzero y ≡ true → eqℤ y ph ≡ false) × NeverMerges (cond (nonzero y) y ph) rs) (sym e) (f, d)

marks_merge_none : (ph : ℤ) (k n : ℕ) (rs : List Rec) (qs : List ℤ) → Marks ph k n rs qs → NeverMerges ph rs
marks_merge_none ph k n rs qs marks_end = tt
marks_merge_none ph k n rs qs (marks_epsilon {k = i} {r = r} {rs = xs} {qs = ps} e d) = merges_none ph (pos 0) r xs e (λ x. never x) (marks_merge_none ph i n xs ps d)
marks_merge_none ph k n rs qs (marks_emitting {k = i} {r = r} {rs = xs} {qs = ps} q nz f e d) = go (eqℤ q ph) refl (marks_merge_none q (suc i) n xs ps d)
  where
    go : (b : Bool) → eqℤ q ph ≡ b → NeverMerges q xs → NeverMerges ph (r ∷ xs)
    go true x rest = merges_none ph (pos 0) r xs (e ∙ ap (λ (c : Bool). cond c (pos 0) q) x) (λ y. never y) (subst (λ (z : ℤ). NeverMerges z xs) (eqℤ_same q ph x) rest)
    go false x rest = merges_none ph q r xs (e ∙ ap (λ (c : Bool). cond c (pos 0) q) x) (λ y. x) (subst (λ (c : Bool). NeverMerges (cond c q ph) xs) (sym nz) rest)

-- then the definition's test drops no record
phone_recs_lem : (ph : ℤ) (rs : List Rec) → NeverMerges ph rs → phone_recs ph rs ≡ opens rs
phone_recs_lem ph [] d = refl
phone_recs_lem ph (r ∷ rs) d = go (nonzero r.phone) refl d.0 (phone_recs_lem ph rs) (phone_recs_lem r.phone rs) d.1
  where
    go : (b : Bool) → nonzero r.phone ≡ b → (b ≡ true → eqℤ r.phone ph ≡ false) → (NeverMerges ph rs → phone_recs ph rs ≡ opens rs) → (NeverMerges r.phone rs → phone_recs r.phone rs ≡ opens rs) → NeverMerges (cond b r.phone ph) rs
        → elim (b && not (eqℤ r.phone ph)) as (λ x. List Rec) [ true ↦ r ∷ phone_recs r.phone rs | false ↦ phone_recs ph rs ] ≡ cond b (r ∷ opens rs) (opens rs)
    go true e f same new d = rw (f refl) (ap (λ (l : List Rec). r ∷ l) (new d))
    go false e f same new d = same d

own_recs_lem : (n : ℕ) (p : Path) (rs : List Rec) → recs_on [] n p rs ≡ own_recs p rs
unfolding recs_on own_recs
own_recs_lem n empty_path rs = refl
own_recs_lem n (arc_onto s p) rs = own_recs_lem n p _
own_recs_lem n (branch_on m k p) rs = own_recs_lem n p rs

module _ (g : Graph) (good : GoodGraph g) (n s : ℕ) (p : Path) (marked : Marked g p) (leads : Leads g g.start (arcs p) s) (frames : emitted (arcs p) ≡ n) where
  pub own_merges_none : NeverMerges (pos 0) (own_recs p [])
  own_merges_none = subst (NeverMerges (pos 0)) (own_recs_lem n p []) (marks_merge_none (pos 0) 0 n (recs_on [] n p []) (phones_on g (arcs p) ++ []) (own_marks g good n s p marked leads frames))

  pub own_trace_lem : (cost : Float) → own_trace n p cost ≡ trace n [] p cost
  unfolding own_trace trace
  own_trace_lem cost =
      ap (λ (l : List Rec). record { words = map (λ (r : Rec). r.word) (word_recs (own_recs p [])); word_frames = map (λ (r : Rec). r.frame) (word_recs (own_recs p [])); phones = segments n l; cost = cost }) (sym (phone_recs_lem (pos 0) (own_recs p []) own_merges_none))
      ∙ ap (λ (rs : List Rec). record { words = map (λ (r : Rec). r.word) (word_recs rs); word_frames = map (λ (r : Rec). r.frame) (word_recs rs); phones = segments n (phone_recs (pos 0) rs); cost = cost }) (sym (own_recs_lem n p []))
