-- The arcs of all states, each state's as a part of the arc tables. Assumes nothing.
use mathlib.Core.Path.{◌≡◌, refl, sym, ◌∙◌, ap, ap₂}
use mathlib.Core.List.{List, [], ◌∷◌, map}
use mathlib.Core.Option.{Option}
use Prim.Native.Nat.{ℕ, zero, suc, ◌+◌, ◌-◌, ◌<◌, ◌≤◌}
use native.Mathlib.Omega.{arith}
use native.Mathlib.Nat.{add-zero, suc-add, add-suc}
use native.Mathlib.Numerals.{add-one}
use lib.IntN.{ℤ, pos}
use lib.ListN.{length, get_or, take, drop, drop_of_length-le}
use lib.Seq.{drop-cons}
use lib.Ieee.{Float}
use Rattle.lists.specs.Lists.{range}
use Rattle.lists.specs.Parts.{part_length, part_at}
use Rattle.model.specs.Basics.{0f, first_of, Place, at_arc, Refusal}
use Rattle.model.specs.Graph.{Graph, arc_at, check_arc, check_arcs, check_states}
use Rattle.std.specs.Prelude.{Ok, Err}
use Rattle.refusals.specs.declared.Refusal.{Refusal as R}
use Rattle.fst.specs.Answer.{graph_of, tables_of, without_words, arc_of, found_of, check_part}
use Rattle.fst.proofs.Arcs.{reads}
use Rattle.fst.proofs.Walk.{refuses, passes, no_fault, the_fault}

-- two graphs whose arcs are checked alike, from a on and from b on
alike : (g f : Graph) (s k a b n : ℕ) → ((i : ℕ) → i < n → (q : Place) → check_arc g q (arc_at g s (a + i)) ≡ check_arc f q (arc_at f s (b + i)))
    → check_arcs g s k (map (arc_at g s) (range a n)) ≡ check_arcs f s k (map (arc_at f s) (range b n))
alike g f s k a b zero h = refl
alike g f s k a b (suc n) h =
    ap₂ (λ (o r : Option Refusal). first_of (o ∷ r ∷ [])) (rw (add-zero a, add-zero b) at (h 0 (omega arith) (at_arc s k)))
    (alike g f s (suc k) (suc a) (suc b) n (λ i l q. rw (suc-add a i, suc-add b i, ← add-suc a i, ← add-suc b i) (h (suc i) (omega arith) q)))

-- ---- one state's arcs, and the part that they are

abbrev pub arcs : Graph → List ℕ → ℕ → Option Refusal
arcs g xs s = check_arcs g s 0 (map (arc_at g s) (range (get_or xs s 0) (get_or xs (s + 1) 0 - get_or xs s 0)))

module _ (os : List ℕ) (il : List ℤ) (ws : List Float) (ns : List ℕ) (fs : List Float) (p h : List ℤ) (m s a e : ℕ) (rise : a ≤ e) (end : e ≤ length il) where
  abbrev g : Graph
  g = without_words os il ws ns fs p h m

  abbrev part : Graph
  part = without_words [] (take (e - a) (drop a il)) (take (e - a) (drop a ws)) (take (e - a) (drop a ns)) fs p h m

  part_arc : (i : ℕ) → i < e - a → (q : Place) → check_arc part q (arc_at part s (0 + i)) ≡ check_arc g q (arc_at g s (a + i))
  unfolding arc_at
  part_arc i l q =
      reads part q (arc_at part s (0 + i)) ∙
      ap₂ (λ (z : ℤ) (w : Float). check_arc (tables_of fs p h m) q (arc_of z w (get_or (take (e - a) (drop a ns)) (0 + i) 0))) (part_at il a (e - a) i (pos 0) l) (part_at ws a (e - a) i 0f l) ∙
      ap (λ (t : ℕ). check_arc (tables_of fs p h m) q (arc_of (get_or il (a + i) (pos 0)) (get_or ws (a + i) 0f) t)) (part_at ns a (e - a) i 0 l) ∙
      sym (reads g q (arc_at g s (a + i)))

  pub part_checked : a ≡ get_or os s 0 → e ≡ get_or os (s + 1) 0 → found_of (check_part part s) ≡ found_of (arcs g os s)
  part_checked b c = ap found_of (whole ∙ ap₂ (λ (x y : ℕ). check_arcs g s 0 (map (arc_at g s) (range x (y - x)))) b c)
    where
      whole : check_part part s ≡ check_arcs g s 0 (map (arc_at g s) (range a (e - a)))
      whole = ap (λ (n : ℕ). check_arcs part s 0 (map (arc_at part s) (range 0 n))) (part_length il a e (length il) refl rise end) ∙ alike part g s 0 0 a (e - a) part_arc

-- ---- the loop over the states, which stands at state s

module _ (g : Graph) (xs : List ℕ) (s : ℕ) (so_far : check_states g 0 xs ≡ check_states g s (drop s xs)) where
  pub all_states_lem : s + 1 ≡ length xs → Ok tt ≡ found_of (check_states g 0 xs)
  all_states_lem h = ap found_of (sym (so_far ∙ ap (check_states g s) last))
    where
      last : drop s xs ≡ get_or xs s 0 ∷ []
      last = drop-cons xs s 0 (omega arith) ∙ ap (λ (ys : List ℕ). get_or xs s 0 ∷ ys) (drop_of_length-le xs {i = suc s} (omega arith))

  module _ (h : s + 1 < length xs) where
    turn : check_states g 0 xs ≡ first_of (arcs g xs s ∷ check_states g (s + 1) (drop (s + 1) xs) ∷ [])
    turn = rw add-one go
      where
        next : drop (suc s) xs ≡ get_or xs (suc s) 0 ∷ drop (suc (suc s)) xs
        next = drop-cons xs (suc s) 0 (omega arith)

        go : check_states g 0 xs ≡ first_of (check_arcs g s 0 (map (arc_at g s) (range (get_or xs s 0) (get_or xs (suc s) 0 - get_or xs s 0))) ∷ check_states g (suc s) (drop (suc s) xs) ∷ [])
        go =
            so_far ∙ ap (check_states g s) (drop-cons xs s 0 (omega arith) ∙ ap (λ (ys : List ℕ). get_or xs s 0 ∷ ys) next) ∙
            ap (λ (ys : List ℕ). first_of (check_arcs g s 0 (map (arc_at g s) (range (get_or xs s 0) (get_or xs (suc s) 0 - get_or xs s 0))) ∷ check_states g (suc s) ys ∷ [])) (sym next)

    pub state_refused : (r : R) → Err r ≡ found_of (arcs g xs s) → Err r ≡ found_of (check_states g 0 xs)
    state_refused r e =
        let f = the_fault (arcs g xs s) r e in
        ap Err f.2 ∙ ap found_of (sym (turn ∙ refuses (arcs g xs s) (check_states g (s + 1) (drop (s + 1) xs)) f.0 f.1))

    pub state_passed : Ok tt ≡ found_of (arcs g xs s) → check_states g 0 xs ≡ check_states g (s + 1) (drop (s + 1) xs)
    state_passed e = turn ∙ passes (arcs g xs s) (check_states g (s + 1) (drop (s + 1) xs)) (no_fault (arcs g xs s) e)

-- the checks of arcs read neither the output labels nor the start
module _ (g f : Graph) (same : (s i : ℕ) (q : Place) → check_arc g q (arc_at g s i) ≡ check_arc f q (arc_at f s i)) where
  same_states_lem : (s : ℕ) (xs : List ℕ) → check_states g s xs ≡ check_states f s xs
  same_states_lem s [] = refl
  same_states_lem s (x ∷ []) = refl
  same_states_lem s (x ∷ (y ∷ xs)) = ap₂ (λ (o r : Option Refusal). first_of (o ∷ r ∷ [])) (alike g f s 0 x x (y - x) (λ i l q. same s (x + i) q)) (same_states_lem (suc s) (y ∷ xs))

pub words_unread : (os : List ℕ) (il ol : List ℤ) (ws : List Float) (ns : List ℕ) (fs : List Float) (p h : List ℤ) (st m : ℕ)
    → check_states (without_words os il ws ns fs p h m) 0 os ≡ check_states (graph_of os il ol ws ns fs p h st m) 0 os
unfolding arc_at
words_unread os il ol ws ns fs p h st m =
    let f = without_words os il ws ns fs p h m in
    let g = graph_of os il ol ws ns fs p h st m in
    same_states_lem f g (λ s i q. reads f q (arc_at f s i) ∙ sym (reads g q (arc_at g s i))) 0 os
