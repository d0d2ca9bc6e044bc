-- What a graph that its builder accepts is known to be. Assumes nothing.
use Rattle.std.specs.Prelude.{◌≡◌, refl, ◌⊎◌, ℕ, zero, suc, ◌+◌, ◌-◌, ◌<◌, ◌≤◌, Bool, true, false, not, ◌&&◌, ◌||◌, List, [], ◌∷◌, map, ℤ, pos, negsuc, nat_abs, length, get_or, leb, ltb, eqb, Float}
use Rattle.std.proofs.Common.{sym, ap, ◌∙◌, subst, inl, inr, add-zero, add-suc, suc-add, zero-add, arith, ltb-true, ltb-false, leb-true, leb-false, eqb-true}
use Rattle.std.proofs.Math.Option.{Option, none, some}
use mathlib.Core.List.Memᴰ.{head as here}
use mathlib.Core.List.Memᴰ.{tail as there}
use Rattle.std.proofs.Math.ListN.{get_or-eq_default}
use Rattle.std.specs.Float.Ieee.Scale.{finite}
use Rattle.std.proofs.lemmas.Bool.{not-false}
use Rattle.lists.specs.Tests.{case, either, lt_or_le, holds, fails, is_true, or_neither, and_both, never}
use Rattle.lists.specs.Lists.{◌∈◌, range}
use Rattle.real32.specs.Order.{not_lt→le, lt_inf}
use Rattle.real32.specs.Small.{tame, tame_real}
use Rattle.model.specs.Basics.{◌≺◌, 0f, ∞, ltℤ, first_of, Place, nowhere, at_arc, at_state}
use Rattle.model.specs.Graph.{Graph, Arc, no_state, states, arc_at, arcs_of, emits, pdf_of, phone_of, runs, runs_from0, num_tids, shape_wrong, start_wrong, label_wrong, weight_wrong, final_wrong, refuse_at, check_arc, check_arcs, check_states, check_finals, check_graph}
use Rattle.model.specs.Checked.{GoodLabel, GoodArc, GoodShape, GoodGraph, arcs_by}

-- ---- checks that do not refuse

passed_first : {A : Type 0} (o : Option A) (rest : List (Option A)) → first_of (o ∷ rest) ≡ none → (o ≡ none) × (first_of rest ≡ none)
passed_first none rest e = (refl, e)
passed_first (some x) rest e = let z : ◌≡◌ {A = ℕ} 0 1 = cc in absurd (omega arith)

passed : (p : Place) (n : ℕ) (b : Bool) → refuse_at p n b ≡ none → b ≡ false
passed p n true e = let z : ◌≡◌ {A = ℕ} 0 1 = cc in absurd (omega arith)
passed p n false e = refl

with_true : (b c : Bool) → b ≡ true → (b && c) ≡ false → c ≡ false
with_true true c p q = q
with_true false c p q = never p

-- ---- one arc

not_below : (z : ℤ) (n : ℕ) → ltℤ z (pos n) ≡ false → (k : ℕ) × (z ≡ pos (n + k))
not_below (pos m) n e = let h = ltb-false m n e in (m - n, ap pos (omega arith))
not_below (negsuc m) n e = never (sym e)

below_count : (z : ℤ) (k n : ℕ) → z ≡ pos k → ltℤ z (pos n) ≡ true → k < n
below_count z k n e l = ltb-true k n (subst (λ (x : ℤ). ltℤ x (pos n) ≡ true) e l)

good_label : (g : Graph) (a : Arc) → emits a ≡ true → label_wrong g a ≡ false → (emits a && ltℤ (phone_of g a) (pos 1)) ≡ false → GoodLabel g a
unfolding label_wrong
good_label g a m e f =
    let i = nat_abs a.ilabel in
    let p1 = leb (length g.tid2pdf) i in
    let p2 = leb (length g.tid2phone) i in
    let p3 = ltℤ (pdf_of g a) (pos 0) in
    let p4 = not (ltℤ (pdf_of g a) (pos g.pdfs)) in
    let inner = with_true (emits a) (p1 || p2 || p3 || p4) m (or_neither (ltℤ a.ilabel (pos 0)) (emits a && (p1 || p2 || p3 || p4)) e).1 in
    let c = or_neither (p1 || p2 || p3) p4 inner in
    let b = or_neither (p1 || p2) p3 c.0 in
    let ab = or_neither p1 p2 b.0 in
    let pdf = not_below (pdf_of g a) 0 b.1 in
    let phone = not_below (phone_of g a) 1 (with_true (emits a) (ltℤ (phone_of g a) (pos 1)) m f) in
    record {
      in_pdfs = leb-false (length g.tid2pdf) i ab.0;
      in_phones = leb-false (length g.tid2phone) i ab.1;
      pdf = 0 + pdf.0;
      pdf_is = pdf.1;
      pdf_few = below_count (pdf_of g a) (0 + pdf.0) g.pdfs pdf.1 (not-false (ltℤ (pdf_of g a) (pos g.pdfs)) c.1);
      phone = phone.0;
      phone_is = phone.1 ∙ ap pos (omega arith);
    }

good_arc : (g : Graph) (p : Place) (a : Arc) → check_arc g p a ≡ none → GoodArc g a
unfolding check_arc weight_wrong label_wrong
good_arc g p a e =
    let wrong5 = weight_wrong a in
    let wrong4 = emits a && ltℤ (phone_of g a) (pos 1) in
    let wrong3 = label_wrong g a in
    let wrong2 = leb (states g) a.target in
    let x2 = passed_first (refuse_at p 2 wrong2) (refuse_at p 3 wrong3 ∷ refuse_at p 4 wrong4 ∷ refuse_at p 5 wrong5 ∷ []) e in
    let x3 = passed_first (refuse_at p 3 wrong3) (refuse_at p 4 wrong4 ∷ refuse_at p 5 wrong5 ∷ []) x2.1 in
    let x4 = passed_first (refuse_at p 4 wrong4) (refuse_at p 5 wrong5 ∷ []) x3.1 in
    let x5 = passed_first (refuse_at p 5 wrong5) [] x4.1 in
    let w = or_neither (not (tame a.weight)) (not (emits a) && a.weight ≺ 0f) (passed p 5 wrong5 x5.0) in
    let i = nat_abs a.ilabel in
    let t = not-false (tame a.weight) w.0 in
    record {
      target = leb-false (states g) a.target (passed p 2 wrong2 x2.0);
      label = (or_neither (ltℤ a.ilabel (pos 0)) (emits a && (leb (length g.tid2pdf) i || leb (length g.tid2phone) i || ltℤ (pdf_of g a) (pos 0) || not (ltℤ (pdf_of g a) (pos g.pdfs)))) (passed p 3 wrong3 x3.0)).0;
      emitting = λ m. good_label g a m (passed p 3 wrong3 x3.0) (passed p 4 wrong4 x4.0);
      weight = t;
      epsilon = λ m. not_lt→le a.weight 0f (tame_real a.weight (holds t)) tt (fails (with_true (not (emits a)) (a.weight ≺ 0f) (ap not m) w.1));
    }

-- ---- every arc

good_arcs : (g : Graph) (s i : ℕ) (as' : List Arc) → check_arcs g s i as' ≡ none → (a : Arc) → a ∈ as' → GoodArc g a
good_arcs g s i [] e a x'' = elim x'' [ ]
good_arcs g s i (b ∷ rest) e a (here q) = subst (GoodArc g) (sym q) (good_arc g (at_arc s i) b (passed_first (check_arc g (at_arc s i) b) (check_arcs g s (suc i) rest ∷ []) e).0)
good_arcs g s i (b ∷ rest) e a (there m) =
    good_arcs g s (suc i) rest (passed_first (check_arcs g s (suc i) rest) [] (passed_first (check_arc g (at_arc s i) b) (check_arcs g s (suc i) rest ∷ []) e).1).0 a m

good_states : (g : Graph) (s : ℕ) (xs : List ℕ) → check_states g s xs ≡ none → (i : ℕ) → suc i < length xs → (a : Arc) → a ∈ arcs_by g (i + s) xs i → GoodArc g a
good_states g s [] e i h a m = absurd (omega arith)
good_states g s (x ∷ []) e i h a m = absurd (omega arith)
good_states g s (x ∷ (y ∷ xs)) e zero h a m =
    good_arcs g s 0 (map (arc_at g s) (range x (y - x))) (passed_first (check_arcs g s 0 (map (arc_at g s) (range x (y - x)))) (check_states g (suc s) (y ∷ xs) ∷ []) e).0 a
    (subst (λ (k : ℕ). a ∈ map (arc_at g k) (range x (y - x))) (zero-add s) m)
good_states g s (x ∷ (y ∷ xs)) e (suc i) h a m =
    let rest = (passed_first (check_arcs g s 0 (map (arc_at g s) (range x (y - x)))) (check_states g (suc s) (y ∷ xs) ∷ []) e).1 in
    good_states g (suc s) (y ∷ xs) (passed_first (check_states g (suc s) (y ∷ xs)) [] rest).0 i (omega arith) a
    (subst (λ (k : ℕ). a ∈ arcs_by g k (y ∷ xs) i) (suc-add i s ∙ sym (add-suc i s)) m)

none_there : (f : ℕ → Arc) (x n : ℕ) (a : Arc) → n ≡ 0 → a ∈ map f (range x n) → ⊥
none_there f x n a e m = elim (subst (λ (k : ℕ). a ∈ map f (range x k)) e m) [ ]

-- past the last state there are no arcs
all_arcs : (g : Graph) → check_states g 0 g.offsets ≡ none → (s : ℕ) (a : Arc) → a ∈ arcs_of g s → GoodArc g a
unfolding arcs_of
all_arcs g e s a m =
    case (lt_or_le (suc s) (length g.offsets)) (λ h. good_states g 0 g.offsets e s h a (subst (λ (k : ℕ). a ∈ arcs_by g k g.offsets s) (sym (add-zero s)) m))
    (λ h.
    let z : get_or g.offsets (suc s) 0 ≡ 0 = get_or-eq_default g.offsets 0 h in
    absurd (none_there (arc_at g s) (get_or g.offsets s 0) (get_or g.offsets (suc s) 0 - get_or g.offsets s 0) a (omega arith) m))

-- ---- offsets

runs_up : (a e : ℕ) (xs : List ℕ) → runs a e xs ≡ true → (a ≤ e) × ((i : ℕ) → get_or xs i 0 ≤ e) × ((i : ℕ) → i < length xs → get_or (a ∷ xs) i 0 ≤ get_or xs i 0)
runs_up a e [] t = (let z = eqb-true a e t in omega arith, λ i. omega arith, λ i h. absurd (omega arith))
runs_up a e (x ∷ xs) t = let b = and_both (leb a x) (runs x e xs) t in go (leb-true a x b.0) (runs_up x e xs b.1)
  where
    go : a ≤ x → (x ≤ e) × ((i : ℕ) → get_or xs i 0 ≤ e) × ((i : ℕ) → i < length xs → get_or (x ∷ xs) i 0 ≤ get_or xs i 0)
        → (a ≤ e) × ((i : ℕ) → get_or (x ∷ xs) i 0 ≤ e) × ((i : ℕ) → i < length (x ∷ xs) → get_or (a ∷ (x ∷ xs)) i 0 ≤ get_or (x ∷ xs) i 0)
    go l r = (let z = r.0 in omega arith, ends, steps)
      where
        ends : (i : ℕ) → get_or (x ∷ xs) i 0 ≤ e
        ends zero = r.0
        ends (suc i) = r.1 i

        steps : (i : ℕ) → i < length (x ∷ xs) → get_or (a ∷ (x ∷ xs)) i 0 ≤ get_or (x ∷ xs) i 0
        steps zero h = l
        steps (suc i) h = r.2 i (omega arith)

-- offsets that run end at most at e, and never fall
pub offsets_run : (e : ℕ) (xs : List ℕ) → runs_from0 e xs ≡ true → ((i : ℕ) → get_or xs i 0 ≤ e) × ((i : ℕ) → suc i < length xs → get_or xs i 0 ≤ get_or xs (suc i) 0)
offsets_run e [] t = never t
offsets_run e (x ∷ xs) t = go (runs_up x e xs (and_both (eqb x 0) (runs x e xs) t).1)
  where
    go : (x ≤ e) × ((i : ℕ) → get_or xs i 0 ≤ e) × ((i : ℕ) → i < length xs → get_or (x ∷ xs) i 0 ≤ get_or xs i 0) → ((i : ℕ) → get_or (x ∷ xs) i 0 ≤ e) × ((i : ℕ) → suc i < length (x ∷ xs) → get_or (x ∷ xs) i 0 ≤ get_or xs i 0)
    go r = (ends, λ i h. r.2 i (omega arith))
      where
        ends : (i : ℕ) → get_or (x ∷ xs) i 0 ≤ e
        ends zero = r.0
        ends (suc i) = r.1 i

-- ---- final weights

-- a final weight that is finite is tame
fair_final : (w : Float) → final_wrong w ≡ false → (tame w ≡ true) ⊎ (finite w ≡ false)
unfolding final_wrong
fair_final w e =
    case (either (finite w)) (λ f. go (tame w) (w ≺ ∞) (0f ≺ w) (is_true (lt_inf w (holds f))) e) inr
  where
    go : (t b c : Bool) → b ≡ true → (not t && not (not b && c)) ≡ false → (t ≡ true) ⊎ (finite w ≡ false)
    go true b c p q = inl refl
    go false true c p q = never (sym q)
    go false false c p q = never p

good_finals : (s : ℕ) (ws : List Float) → check_finals s ws ≡ none → (i : ℕ) → i < length ws → (tame (get_or ws i ∞) ≡ true) ⊎ (finite (get_or ws i ∞) ≡ false)
good_finals s [] e i h = absurd (omega arith)
good_finals s (w ∷ ws) e zero h = fair_final w (passed (at_state s) 5 (final_wrong w) (passed_first (refuse_at (at_state s) 5 (final_wrong w)) (check_finals (suc s) ws ∷ []) e).0)
good_finals s (w ∷ ws) e (suc i) h =
    good_finals (suc s) ws (passed_first (check_finals (suc s) ws) [] (passed_first (refuse_at (at_state s) 5 (final_wrong w)) (check_finals (suc s) ws ∷ []) e).1).0 i (omega arith)

-- ---- the graph

pub good_shape : (g : Graph) → shape_wrong g ≡ false → GoodShape g
unfolding shape_wrong
good_shape g e =
    let n = states g in
    let m = length g.ilabels in
    let t1 = ltb 65_535 n in
    let t2 = ltb 1_048_576 m in
    let t3 = ltb 65_536 (num_tids g.tid2pdf) in
    let t4 = ltb 65_536 (num_tids g.tid2phone) in
    let t5 = not (eqb (length g.offsets) (suc n)) in
    let t6 = not (eqb (length g.olabels) m) in
    let t7 = not (eqb (length g.weights) m) in
    let t8 = not (eqb (length g.nextstates) m) in
    let e8 = or_neither (t1 || t2 || t3 || t4 || t5 || t6 || t7 || t8) (not (runs_from0 m g.offsets)) e in
    let e7 = or_neither (t1 || t2 || t3 || t4 || t5 || t6 || t7) t8 e8.0 in
    let e6 = or_neither (t1 || t2 || t3 || t4 || t5 || t6) t7 e7.0 in
    let e5 = or_neither (t1 || t2 || t3 || t4 || t5) t6 e6.0 in
    let e4 = or_neither (t1 || t2 || t3 || t4) t5 e5.0 in
    let e3 = or_neither (t1 || t2 || t3) t4 e4.0 in
    let e2 = or_neither (t1 || t2) t3 e3.0 in
    let e1 = or_neither t1 t2 e2.0 in
    record {
      states_few = ltb-false 65_535 n e1.0;
      arcs_few = ltb-false 1_048_576 m e1.1;
      offsets = eqb-true (length g.offsets) (suc n) (not-false (eqb (length g.offsets) (suc n)) e4.1);
      olabels = eqb-true (length g.olabels) m (not-false (eqb (length g.olabels) m) e5.1);
      weights = eqb-true (length g.weights) m (not-false (eqb (length g.weights) m) e6.1);
      nextstates = eqb-true (length g.nextstates) m (not-false (eqb (length g.nextstates) m) e7.1);
      rising = not-false (runs_from0 m g.offsets) e8.1;
    }

good_start : (g : Graph) → start_wrong g ≡ false → (g.start < states g) ⊎ (g.start ≡ no_state)
unfolding start_wrong
good_start g e = go (ltb g.start (states g)) (eqb g.start no_state) refl refl e
  where
    go : (b c : Bool) → ltb g.start (states g) ≡ b → eqb g.start no_state ≡ c → not (b || c) ≡ false → (g.start < states g) ⊎ (g.start ≡ no_state)
    go true c p q f = inl (ltb-true g.start (states g) p)
    go false true p q f = inr (eqb-true g.start no_state q)
    go false false p q f = never (sym f)

pub checked : (g : Graph) → check_graph g ≡ none → GoodGraph g
unfolding check_graph
checked g e =
    let c4 = check_finals 0 g.finals in
    let c3 = check_states g 0 g.offsets in
    let c2 = refuse_at nowhere 2 (start_wrong g) in
    let x1 = passed_first (refuse_at nowhere 1 (shape_wrong g)) (c2 ∷ c3 ∷ c4 ∷ []) e in
    let x2 = passed_first c2 (c3 ∷ c4 ∷ []) x1.1 in
    let x3 = passed_first c3 (c4 ∷ []) x2.1 in
    let x4 = passed_first c4 [] x3.1 in
    let shape = good_shape g (passed nowhere 1 (shape_wrong g) x1.0) in
    let run = offsets_run (length g.ilabels) g.offsets shape.rising in
    let long = shape.offsets in
    record {
      shape = shape;
      runs_on = λ s h. run.1 s (omega arith);
      runs_to = run.0;
      start = good_start g (passed nowhere 2 (start_wrong g) x2.0);
      arc = all_arcs g x3.0;
      final = good_finals 0 g.finals x4.0;
    }
