-- One arc: its four tests, and the place of its refusal. Assumes nothing.
use mathlib.Core.Path.{◌≡◌, refl, sym, ◌∙◌, ap, ap₂}
use mathlib.Core.Bool.{Bool, true, false, ◌&&◌}
use mathlib.Core.List.{List, [], ◌∷◌, map}
use mathlib.Core.Option.{Option, none, some}
use Prim.Native.Nat.{ℕ, suc, ◌+◌, ◌-◌, ◌<◌}
use native.Mathlib.Omega.{arith}
use native.Mathlib.Numerals.{add-one}
use lib.IntN.{ℤ, pos}
use lib.Dec.{leb}
use lib.ListN.{length, get_or}
use lib.Ieee.{Float, nan}
use Rattle.lists.specs.Lists.{range}
use Rattle.model.specs.Basics.{0f, ltℤ, first_of, Place, nowhere, at_arc, Refusal}
use Rattle.model.specs.Graph.{Graph, Arc, states, emits, phone_of, label_wrong, weight_wrong, arc_at, refuse_at, check_arc, check_arcs}
use Rattle.refusals.specs.declared.Place.TheVariants.{AtArc}
use Rattle.std.specs.Prelude.{Ok, Err}
use Rattle.lists.specs.Members.{get_d_any}
use Rattle.fst.proofs.Walk.{refuses, passes}
use Rattle.fst.specs.Answer.{tables_of, without_words, arc_of, found_of, check_label}

-- the tests of one arc: target, label, phone, weight
abbrev four : Place → (b c d e : Bool) → Option Refusal
four p b c d e = first_of (refuse_at p 2 b ∷ refuse_at p 3 c ∷ refuse_at p 4 d ∷ refuse_at p 5 e ∷ [])

abbrev two : (c d : Bool) → Option Refusal
two c d = first_of (refuse_at nowhere 3 c ∷ refuse_at nowhere 4 d ∷ [])

label_refuses : (c d e : Bool) (r : Refusal) → some r ≡ two c d → some r ≡ four nowhere false c d e
label_refuses true d e r h = h
label_refuses false true e r h = h
label_refuses false false e r h = let z : ◌≡◌ {A = ℕ} 0 1 = cc in absurd (omega arith)

label_passes : (c d e : Bool) → none ≡ two c d → refuse_at nowhere 5 e ≡ four nowhere false c d e
label_passes true d e h = let z : ◌≡◌ {A = ℕ} 0 1 = cc in absurd (omega arith)
label_passes false true e h = let z : ◌≡◌ {A = ℕ} 0 1 = cc in absurd (omega arith)
label_passes false false true h = refl
label_passes false false false h = refl

module _ (f : List Float) (p h : List ℤ) (n : ℕ) (z : ℤ) (w : Float) (t : ℕ) where
  abbrev g : Graph
  g = tables_of f p h n

  abbrev a : Arc
  a = arc_of z w t

  pub no_target : leb (length f) t ≡ true → some (record { number = 2; place = nowhere }) ≡ check_arc g nowhere a
  unfolding check_arc
  no_target e = simp e

  module _ (e : leb (length f) t ≡ false) where
    pub by_label_lem : (r : Refusal) → some r ≡ check_label (tables_of [] p h n) (arc_of z 0f 0) → some r ≡ check_arc g nowhere a
    unfolding check_arc label_wrong
    by_label_lem r l =
        let c = label_wrong g a in
        let d = emits a && ltℤ (phone_of g a) (pos 1) in
        label_refuses c d (weight_wrong a) r l ∙ ap (λ (b : Bool). four nowhere b c d (weight_wrong a)) (sym e)

    pub by_weight : none ≡ check_label (tables_of [] p h n) (arc_of z 0f 0) → (v : Bool) → v ≡ weight_wrong (arc_of z w 0) → refuse_at nowhere 5 v ≡ check_arc g nowhere a
    unfolding check_arc label_wrong weight_wrong
    by_weight l v q =
        let c = label_wrong g a in
        let d = emits a && ltℤ (phone_of g a) (pos 1) in
        ap (refuse_at nowhere 5) q ∙ label_passes c d (weight_wrong a) l ∙ ap (λ (b : Bool). four nowhere b c d (weight_wrong a)) (sym e)

-- the check reads of a graph its tables, and of an arc its input label, its weight and its target
pub reads : (g : Graph) (q : Place) (x : Arc) → check_arc g q x ≡ check_arc (tables_of g.finals g.tid2pdf g.tid2phone g.pdfs) q (arc_of x.ilabel x.weight x.target)
unfolding check_arc label_wrong weight_wrong
reads g q x = refl

-- the place does not count in the tests
abbrev pub moved : Place → Option Refusal → Option Refusal
moved p none = none
moved p (some r) = some (record { number = r.number; place = p })

four_at : (p : Place) (b c d e : Bool) → four p b c d e ≡ moved p (four nowhere b c d e)
four_at p true c d e = refl
four_at p false true d e = refl
four_at p false false true e = refl
four_at p false false false true = refl
four_at p false false false false = refl

pub check_at : (g : Graph) (p : Place) (a : Arc) → check_arc g p a ≡ moved p (check_arc g nowhere a)
unfolding check_arc
check_at g p a = four_at p (leb (states g) a.target) (label_wrong g a) (emits a && ltℤ (phone_of g a) (pos 1)) (weight_wrong a)

-- ---- the arcs of one state: all n, and those from the i-th on

abbrev pub whole : Graph → (s n : ℕ) → Option Refusal
whole g s n = check_arcs g s 0 (map (arc_at g s) (range 0 n))

abbrev pub ahead : Graph → (s n i : ℕ) → Option Refusal
ahead g s n i = check_arcs g s i (map (arc_at g s) (range i (n - i)))

pub at_first : (g : Graph) (s n : ℕ) → whole g s n ≡ ahead g s n 0
at_first g s n = let e : n ≡ n - 0 = omega arith in ap (λ (k : ℕ). check_arcs g s 0 (map (arc_at g s) (range 0 k))) e

module _ (g : Graph) (s n i : ℕ) (so_far : whole g s n ≡ ahead g s n i) where
  pub all_sound : i ≡ n → Ok tt ≡ found_of (whole g s n)
  all_sound h = ap found_of (sym (so_far ∙ ap (λ (k : ℕ). check_arcs g s i (map (arc_at g s) (range i k))) left))
    where
      left : n - i ≡ 0
      left = omega arith

  module _ (h : i < n) where
    abbrev test : Option Refusal
    test = check_arc g (at_arc s i) (arc_at g s i)

    turn : whole g s n ≡ first_of (test ∷ ahead g s n (suc i) ∷ [])
    turn = so_far ∙ ap (λ (k : ℕ). check_arcs g s i (map (arc_at g s) (range i k))) left
      where
        left : n - i ≡ suc (n - suc i)
        left = omega arith

    module _ (o : Option Refusal) (e : o ≡ check_arc g nowhere (arc_at g s i)) where
      found : test ≡ moved (at_arc s i) o
      found = check_at g (at_arc s i) (arc_at g s i) ∙ ap (moved (at_arc s i)) (sym e)

      pub arc_refused : (k : ℕ) → some (record { number = k; place = nowhere }) ≡ o → Err (record { number = k; place = AtArc s i }) ≡ found_of (whole g s n)
      arc_refused k z = ap found_of (sym (turn ∙ refuses test (ahead g s n (suc i)) (record { number = k; place = at_arc s i }) (found ∙ ap (moved (at_arc s i)) (sym z))))

      pub arc_passed : none ≡ o → whole g s n ≡ ahead g s n (i + 1)
      arc_passed z = rw add-one (turn ∙ passes test (ahead g s n (suc i)) (found ∙ ap (moved (at_arc s i)) (sym z)))

-- the arc that the code reads is the definition's
pub arc_read : (il : List ℤ) (ws : List Float) (ns : List ℕ) (f : List Float) (p h : List ℤ) (n s i : ℕ) (y : ℤ) → y ≡ get_or il i (pos 0) → i < length ws
    → check_arc (tables_of f p h n) nowhere (arc_of y (get_or ws i nan) (get_or ns i 0)) ≡ check_arc (without_words [] il ws ns f p h n) nowhere (arc_at (without_words [] il ws ns f p h n) s i)
unfolding arc_at
arc_read il ws ns f p h n s i y e l =
    ap₂ (λ (z : ℤ) (w : Float). check_arc (tables_of f p h n) nowhere (arc_of z w (get_or ns i 0))) e (get_d_any ws i nan 0f l) ∙
    sym (reads (without_words [] il ws ns f p h n) nowhere (arc_at (without_words [] il ws ns f p h n) s i))
