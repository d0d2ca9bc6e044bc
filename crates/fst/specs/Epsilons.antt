-- The table of the states that have epsilon arcs.
use Rattle.std.specs.Prelude.{◌≡◌, refl, Bool, true, false, List, map, ◌++◌, ℕ, zero, suc, ◌+◌, ◌-◌, ◌<◌, ℤ, length, get_or, drop}
use Rattle.std.proofs.Common.{sym, ◌∙◌, ap, arith, add-zero}
use Rattle.lists.specs.Lists.{range}
use Rattle.model.specs.Graph.{Graph, has_eps}

abbrev pub bit : Bool → ℕ
bit true = 1
bit false = 0

-- of the states below n
abbrev pub eps_bits : Graph → ℕ → List ℕ
eps_bits g n = map (λ s. bit (has_eps g s)) (range 0 n)

-- an offset is one more than a state, so the states are one fewer; whatever else the graph holds does not count
pub record EpsFilled (offsets : List ℕ) (ilabels : List ℤ) (before after : List ℕ) : Type 0 where
  pub filled : (g : Graph) → g.offsets ≡ offsets → g.ilabels ≡ ilabels → after ≡ eps_bits g (length offsets - 1) ++ drop (length offsets - 1) before

-- ---- a state's bit in the table

bit_from : (g : Graph) (a n i : ℕ) (rest : List ℕ) → i < n → get_or (map (λ s. bit (has_eps g s)) (range a n) ++ rest) i 0 ≡ bit (has_eps g (a + i))
bit_from g a zero i rest h = absurd (omega arith)
bit_from g a (suc n) zero rest h = ap (λ (s : ℕ). bit (has_eps g s)) (sym (add-zero a))
bit_from g a (suc n) (suc i) rest h =
    let e : suc a + i ≡ a + suc i = omega arith in
    bit_from g (suc a) n i rest (omega arith) ∙ ap (λ (s : ℕ). bit (has_eps g s)) e

pub eps_at : (g : Graph) (before after : List ℕ) → EpsFilled g.offsets g.ilabels before after → (s : ℕ) → s < length g.offsets - 1 → get_or after s 0 ≡ bit (has_eps g s)
eps_at g before after f s h =
    let n = length g.offsets - 1 in
    let e : 0 + s ≡ s = omega arith in
    ap (λ (xs : List ℕ). get_or xs s 0) (f.filled g refl refl) ∙ bit_from g 0 n s (drop n before) h ∙ ap (λ (k : ℕ). bit (has_eps g k)) e
