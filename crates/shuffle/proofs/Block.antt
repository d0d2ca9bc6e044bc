-- A block of four-byte numbers, and the same bytes by their place in the number. Assumes nothing.
use Rattle.std.specs.Prelude.{◌≡◌, refl, ℕ, ◌/◌, ◌%◌, false, not, eqb, length, Ok}
use Rattle.std.proofs.Common.{ap, ◌∙◌, arith, eqb-true}
use mathlib.Core.List.{List, [], ◌∷◌, flat_map}
use Rattle.std.proofs.lemmas.Bool.{not-false}
use Rattle.lists.specs.Tests.{case, either, or_neither}
use Rattle.shuffle.specs.Transpose.{transpose}
use Rattle.shuffle.proofs.Transpose.{transpose-length, twice}
use Rattle.shuffle.specs.Block.{shuffled, unshuffled, wrong, Rearranged}

-- ---- two numbers, computed

pub two_shuffled : shuffled (1 ∷ 2 ∷ 3 ∷ 4 ∷ 5 ∷ 6 ∷ 7 ∷ 8 ∷ []) ≡ 1 ∷ 5 ∷ 2 ∷ 6 ∷ 3 ∷ 7 ∷ 4 ∷ 8 ∷ []
unfolding transpose flat_map
two_shuffled = refl

pub two_unshuffled : unshuffled (1 ∷ 2 ∷ 3 ∷ 4 ∷ 5 ∷ 6 ∷ 7 ∷ 8 ∷ []) ≡ 1 ∷ 3 ∷ 5 ∷ 7 ∷ 2 ∷ 4 ∷ 6 ∷ 8 ∷ []
unfolding transpose flat_map
two_unshuffled = refl

-- ---- either way after the other restores every block

module _ (block : List ℕ) (h : length block % 4 ≡ 0) where
  pub unshuffled_shuffled : unshuffled (shuffled block) ≡ block
  unshuffled_shuffled =
      let n = length block / 4 in
      let e : length (shuffled block) / 4 ≡ n = omega (arith, transpose-length n 4 block) in
      ap (λ (k : ℕ). transpose 4 k (shuffled block)) e ∙ twice n 4 block (omega arith)

  pub shuffled_unshuffled : shuffled (unshuffled block) ≡ block
  shuffled_unshuffled =
      let n = length block / 4 in
      let e : length (unshuffled block) / 4 ≡ n = omega (arith, transpose-length 4 n block) in
      ap (λ (k : ℕ). transpose k 4 (unshuffled block)) e ∙ twice 4 n block (omega arith)

-- lengths that are not refused
pub right : (block output : ℕ) → wrong block output ≡ false → (block % 4 ≡ 0) × (output ≡ block)
right block output w =
    let (a, b) = or_neither (not (eqb (block % 4) 0)) (not (eqb output block)) w in
    (eqb-true (block % 4) 0 (not-false (eqb (block % 4) 0) a), eqb-true output block (not-false (eqb output block) b))

-- what fills the output with the answer's bytes is done
module _ (by : List ℕ → List ℕ) (block output : List ℕ) where
  pub done : wrong (length block) (length output) ≡ false → (left : List ℕ) → left ≡ by block → Rearranged by block output (Ok tt) left
  done w left p = record { answers = rw w; leaves = rw w p }

-- what a call that is done leaves
written : {by : List ℕ → List ℕ} {block output left : List ℕ} → Rearranged by block output (Ok tt) left → (length block % 4 ≡ 0) × (left ≡ by block)
written {by} {block} {output} r =
    case (either (wrong (length block) (length output)))
    (λ w. let f = rw w at r.answers in let z : ◌≡◌ {A = ℕ} 0 1 = cc in absurd (omega arith))
    (λ w. ((right (length block) (length output) w).0, rw w at r.leaves))

-- so in the contracts' words
module _ (block output output' there back : List ℕ) where
  pub unshuffle_after_shuffle : Rearranged shuffled block output (Ok tt) there → Rearranged unshuffled there output' (Ok tt) back → back ≡ block
  unshuffle_after_shuffle r r' = let (h, e) = written r in (written r').1 ∙ ap unshuffled e ∙ unshuffled_shuffled block h

  pub shuffle_after_unshuffle : Rearranged unshuffled block output (Ok tt) there → Rearranged shuffled there output' (Ok tt) back → back ≡ block
  shuffle_after_unshuffle r r' = let (h, e) = written r in (written r').1 ∙ ap shuffled e ∙ shuffled_unshuffled block h
