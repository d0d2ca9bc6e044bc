-- The ways, as the code makes them. Assumes nothing.
use mathlib.Core.Path.{◌≡◌, refl, ◌∙◌, ap, subst}
use Prim.Native.Nat.{ℕ, suc, ◌-◌, ◌≤◌, ◌<◌}
use native.Mathlib.Omega.{arith}
use mathlib.Core.Bool.{true, cond}
use mathlib.Core.List.{List}
use lib.IntN.{ℤ}
use lib.Ieee.{Float}
use Rattle.lists.specs.Tests.{case, either}
use Rattle.model.specs.Basics.{◌≼◌, 0f, nonzero}
use Rattle.records.specs.Layout.{prev_at, kept_at, kept_word_at, cost_at, graph_at}
use Rattle.joins.specs.Walk.{Chains, words_to}
use Rattle.histories.specs.declared.Hashed.{Hashed}
use Rattle.histories.specs.Reading.{EndIs, HashIs, hashed, newer}
use Rattle.histories.specs.Laws.{newer_hashed}
use Rattle.traceback.specs.Chain.{Walkable}
use Rattle.below.specs.Stored.{first_at, count_at}
use Rattle.below.specs.Marks.{OwnReach, KeptReach}

module _ {rs : List ℕ} {ls : List ℤ} {used : ℕ} {lists : List ℕ} {r link end : ℕ} {x : Hashed} where
  pub own_reach : {f n : ℕ} → Chains rs ls used → 0 < r → r ≤ used → link ≡ prev_at rs (r - 1) → EndIs rs ls used link true end → HashIs rs ls used link end x → f ≡ first_at lists end → n ≡ count_at lists end
      → OwnReach rs ls used lists r (record { first = f; count = n; cost = 0f; graph = 0f; hash = x.hash; shift = x.shift; len = x.len; join = 0 })
  own_reach {f} {n} ch pos l p E H a b =
      record {
        way = record {
          end = end;
          end_is = subst (λ (k : ℕ). EndIs rs ls used k true end) p E;
          words = λ gs h ok. H.is gs h ok ∙ ap (λ (k : ℕ). hashed (words_to h end k)) p;
          first = a;
          count = b;
          cost = refl;
          graph = refl;
          join = refl;
        };
        low = let z = ch.prev_low (r - 1) (omega arith) in omega (arith, H.low E.low);
      }

newer_len : (x : Hashed) (w : ℤ) → (newer x w).len ≤ suc x.len
unfolding newer
newer_len x w = case (either (nonzero w)) (λ e. rw e (omega arith)) (λ e. rw e (omega arith))

module _ {rs : List ℕ} {ls : List ℤ} {gs : List Float} {used : ℕ} {lists : List ℕ} {r link end : ℕ} {x y : Hashed} {margin : Float} where
  pub kept_reach : {f n : ℕ} {c : Float} {w v : ℤ} → Walkable rs ls used → 0 < r → r ≤ used → link ≡ kept_at rs (r - 1) → EndIs rs ls used link true end → HashIs rs ls used link end x → w ≡ kept_word_at ls (r - 1) → v ≡ w → y ≡ newer x v
      → f ≡ first_at lists end → c ≡ cost_at gs (r - 1) → n ≡ cond (c ≼ margin) (count_at lists end) 0
      → KeptReach rs ls gs used lists r margin (record { first = f; count = n; cost = c; graph = graph_at gs (r - 1); hash = y.hash; shift = y.shift; len = y.len; join = r })
  kept_reach {f} {n} {c} {w} {v} walk pos l p E H i j k a b d =
      let z = walk.kept_low (r - 1) (omega arith) in
      record {
        way = record {
          end = end;
          end_is = subst (λ (k : ℕ). EndIs rs ls used k true end) p E;
          words = λ gs h ok. k ∙ ap (newer x) (j ∙ i) ∙ ap (λ (o : Hashed). newer o (kept_word_at ls (r - 1))) (H.is gs h ok ∙ ap (λ (k : ℕ). hashed (words_to h end k)) p) ∙ newer_hashed (kept_word_at ls (r - 1)) (words_to h end (kept_at rs (r - 1)));
          first = a;
          count = d ∙ ap (λ (o : Float). cond (o ≼ margin) (count_at lists end) 0) b;
          cost = b;
          graph = refl;
          join = refl;
        };
        low = let u = ap (λ (o : Hashed). o.len) k in omega (arith, newer_len x v, H.low E.low);
        end_low = omega (arith, E.low);
      }
