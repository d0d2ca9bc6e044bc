-- Final weights: past the list's end the definition has +∞, and an element's default does not count. Assumes nothing.
use mathlib.Core.Path.{◌≡◌, sym, ◌∙◌, ap}
use mathlib.Core.Bool.{true, false}
use mathlib.Core.List.{List, [], ◌∷◌}
use Prim.Native.Nat.{ℕ, suc, ◌+◌, ◌<◌, ◌≤◌}
use native.Mathlib.Numerals.{add-one}
use mathlib.Core.Option.{Option}
use lib.ListN.{length, get_or, drop, get_or-eq_default}
use lib.Ieee.{Float, nan, inf}
use lib.Ieee.Scale.{finite}
use Rattle.model.specs.Basics.{first_of, at_state, Refusal}
use Rattle.model.specs.Graph.{final_wrong, refuse_at, check_finals}
use Rattle.refusals.specs.declared.Place.TheVariants.{AtState}
use Rattle.std.specs.Prelude.{Ok, Err}
use Rattle.fst.specs.Answer.{found_of}
use Rattle.fst.proofs.Walk.{at_end, in_turn, refuses, passes}

-- past the end the definition has +∞
pub no_weight : (xs : List Float) (i : ℕ) → length xs ≤ i → finite (get_or xs i (inf false)) ≡ false
no_weight xs i h = ap finite (get_or-eq_default xs (inf false) h)

-- ---- the loop over the final weights, which stands at state s

module _ (ws : List Float) (s : ℕ) (so_far : check_finals 0 ws ≡ check_finals s (drop s ws)) where
  pub all_fair : s ≡ length ws → Ok tt ≡ found_of (check_finals 0 ws)
  all_fair h = ap found_of (sym (at_end (check_finals 0 ws) (check_finals s) ws s so_far h))

  module _ (h : s < length ws) where
    abbrev test : Option Refusal
    test = refuse_at (at_state s) 5 (final_wrong (get_or ws s nan))

    abbrev rest : Option Refusal
    rest = check_finals (suc s) (drop (suc s) ws)

    turn : check_finals 0 ws ≡ first_of (test ∷ rest ∷ [])
    turn = in_turn (check_finals 0 ws) (check_finals s) ws s so_far nan h

    pub unfair : true ≡ final_wrong (get_or ws s nan) → Err (record { number = 5; place = AtState s }) ≡ found_of (check_finals 0 ws)
    unfair e = ap found_of (sym (turn ∙ refuses test rest (record { number = 5; place = at_state s }) (ap (refuse_at (at_state s) 5) (sym e))))

    pub fair : false ≡ final_wrong (get_or ws s nan) → check_finals 0 ws ≡ check_finals (s + 1) (drop (s + 1) ws)
    fair e = rw add-one (turn ∙ passes test rest (ap (refuse_at (at_state s) 5) (sym e)))
