-- Which states have epsilon arcs. Assumes nothing.
use mathlib.Core.Path.{◌≡◌, refl, sym, ◌∙◌, ap, ap₂}
use mathlib.Core.Bool.{Bool, true, false, not, ◌||◌}
use mathlib.Core.List.{List, [], ◌∷◌, map, ◌++◌}
use Prim.Native.Nat.{ℕ, zero, suc, ◌+◌, ◌-◌, ◌<◌, ◌≤◌}
use native.Mathlib.Omega.{arith}
use native.Mathlib.Nat.{add-zero}
use native.Mathlib.Numerals.{add-one}
use lib.IntN.{ℤ, pos}
use lib.ListN.{length, get_or, take, drop, set}
use lib.Seq.{drop-cons, set_at, append_snoc}
use mir.Val.{bool_byte}
use Rattle.lists.specs.Lists.{any, range}
use Rattle.model.specs.Basics.{nonzero}
use Rattle.model.specs.Graph.{Graph, arc_at, emits, arcs_of, has_eps}
use Rattle.fst.specs.Epsilons.{bit, eps_bits}
use Rattle.fst.proofs.Walk.{at_end, in_turn}

abbrev pub epsilon : ℤ → Bool
epsilon z = not (nonzero z)

module _ (xs : List ℤ) (i : ℕ) (so_far : any epsilon xs ≡ any epsilon (drop i xs)) where
  pub none_found : i ≡ length xs → false ≡ any epsilon xs
  none_found h = sym (at_end (any epsilon xs) (any epsilon) xs i so_far h)

  module _ (h : i < length xs) where
    turn : any epsilon xs ≡ (epsilon (get_or xs i (pos 0)) || any epsilon (drop (suc i) xs))
    turn = in_turn (any epsilon xs) (any epsilon) xs i so_far (pos 0) h

    pub found : nonzero (get_or xs i (pos 0)) ≡ false → true ≡ any epsilon xs
    found e = sym (turn ∙ simp e)

    pub not_here : nonzero (get_or xs i (pos 0)) ≡ true → any epsilon xs ≡ any epsilon (drop (i + 1) xs)
    not_here e = rw add-one (turn ∙ simp e)

-- ---- a state's part and the state

part_epsilon : (g : Graph) (s a n : ℕ) → a + n ≤ length g.ilabels → any epsilon (take n (drop a g.ilabels)) ≡ any (λ x. not (emits x)) (map (arc_at g s) (range a n))
unfolding arc_at
part_epsilon g s a zero h = refl
part_epsilon g s a (suc n) h =
    ap (λ (xs : List ℤ). any epsilon (take (suc n) xs)) (drop-cons g.ilabels a (pos 0) (omega arith)) ∙
    ap (λ (b : Bool). epsilon (get_or g.ilabels a (pos 0)) || b) (part_epsilon g s (suc a) n (omega arith))

module _ (os : List ℕ) (il : List ℤ) (s a e : ℕ) (rise : a ≤ e) (end : e ≤ length il) (b : a ≡ get_or os s 0) (c : e ≡ get_or os (s + 1) 0) where
  pub state_epsilon : (g : Graph) → g.offsets ≡ os → g.ilabels ≡ il → any epsilon (take (e - a) (drop a il)) ≡ has_eps g s
  unfolding has_eps arcs_of
  state_epsilon g p q =
      ap (λ (xs : List ℤ). any epsilon (take (e - a) (drop a xs))) (sym q) ∙
      part_epsilon g s a (e - a) (let l = ap length q in omega arith) ∙
      ap₂ (λ (x y : ℕ). any (λ z. not (emits z)) (map (arc_at g s) (range x (y - x)))) (b ∙ ap (λ (xs : List ℕ). get_or xs s 0) (sym p)) (c ∙ rw add-one (ap (λ (xs : List ℕ). get_or xs (suc s) 0) (sym p)))

-- ---- the table, filled below s

range_snoc : {A : Type 0} (f : ℕ → A) (a n : ℕ) → map f (range a (suc n)) ≡ map f (range a n) ++ (f (a + n) ∷ [])
range_snoc f a zero = ap (λ (k : ℕ). f k ∷ []) (sym (add-zero a))
range_snoc {A = A} f a (suc n) =
    let e : suc a + n ≡ a + suc n = omega arith in
    ap (λ (xs : List A). f a ∷ xs) (range_snoc f (suc a) n) ∙ ap (λ (k : ℕ). f a ∷ (map f (range (suc a) n) ++ (f k ∷ []))) e

bits_length : (g : Graph) (n : ℕ) → length (eps_bits g n) ≡ n
bits_length g n = go 0 n
  where
    go : (a n : ℕ) → length (map (λ s. bit (has_eps g s)) (range a n)) ≡ n
    go a zero = refl
    go a (suc n) = ap suc (go (suc a) n)

pub byte : (b : Bool) → bool_byte b ≡ bit b
byte true = refl
byte false = refl

pub bits_more : (g : Graph) (t : List ℕ) (s v : ℕ) → s < length t → v ≡ bit (has_eps g s) → set (eps_bits g s ++ drop s t) s v ≡ eps_bits g (s + 1) ++ drop (s + 1) t
bits_more g t s v h e =
    let p = eps_bits g s in
    let ys = drop (suc s) t in
    let z : 0 + s ≡ s = omega arith in
    rw add-one
    (ap (λ (xs : List ℕ). set (p ++ xs) s v) (drop-cons t s 0 h) ∙
    set_at p (get_or t s 0) ys v s (bits_length g s) ∙
    sym (append_snoc p v ys) ∙
    ap (λ (xs : List ℕ). xs ++ ys) (ap (λ (b : ℕ). p ++ (b ∷ [])) (e ∙ ap (λ (k : ℕ). bit (has_eps g k)) (sym z)) ∙ sym (range_snoc (λ k. bit (has_eps g k)) 0 s)))
