-- The kept readings that are met: each of one token by one way below it, and no two of one key are level. Assumes nothing.
use Rattle.std.specs.Prelude.{◌≡◌, ℕ, Bool, true, false, List, T, Float}
use Rattle.std.proofs.Common.{sym, ap, ap₂, ◌∙◌, subst}
use Rattle.lists.specs.Lists.{◌∈◌, keep_if}
use Rattle.real32.specs.Order.{real}
use Rattle.model.specs.Graph.{Graph}
use Rattle.model.specs.Passes.{State}
use Rattle.model.specs.Reads.{Ranked, ranked}
use Rattle.model.specs.Readings.{Below, same_key, below, heads, Kept, kept_of, kept_below}
use Rattle.model.specs.Checked.{GoodGraph}
use Rattle.copy_laws.specs.Walks.{Heard}
use Rattle.copy_laws.specs.Sums.{Floats32}
use Rattle.copy_laws.specs.Active.{Active}
use Rattle.copy_laws.proofs.Sooner.{one_seq, one_entry}
use Rattle.copy_laws.specs.Listed.{KeptBy}
use Rattle.copy_laws.proofs.Listed.{kept_heads}
use Rattle.kept_readings.specs.Meaning.{kept_within}
use Rattle.kept_readings.specs.Whole.{same_words_kept, sooner_of_kept, kept_rank, kept_seq, Orderly}
use Rattle.listing_laws.specs.Known.{kept_key}
use Rattle.listing_laws.specs.Once.{below_once}

-- its seq is the token's
kept_token : {finals : Bool} {margin : Float} {cap : ℕ} {rs : List Ranked} {k : Kept} (d : KeptBy finals margin cap rs k) → kept_seq k ≡ d.head.token.seq
unfolding kept_of
kept_token d = ap kept_seq d.is

module _ (g : Graph) (good : GoodGraph g) (floats : Floats32 g) (fs : List Heard) (st : State) (active : Active g fs st.table st.seq st.fresh) (f : Bool) (finals : Bool) (margin bound : Float) (cap : ℕ)
    (reals : (r : Ranked) → r ∈ ranked g st f → (b : Below) → b ∈ below margin cap r.token.path → T (real (kept_rank (kept_of finals r b)))) where
  abbrev met : List Kept
  met = keep_if (kept_within bound) (kept_below finals margin cap (heads finals bound (ranked g st f)))

  met_from : (k : Kept) → k ∈ met → KeptBy finals margin cap (ranked g st f) k
  met_from = kept_heads finals margin bound cap (ranked g st f)

  rank_real : (k : Kept) → k ∈ met → T (real (kept_rank k))
  rank_real k m = let d = met_from k m in subst (λ (x : Kept). T (real (kept_rank x))) (sym d.is) (reals d.head d.among d.way d.below)

  -- each has a rank, and of one key one comes first
  pub orderly : Orderly met
  orderly = record { ranks = rank_real; one = one }
    where
      one : (x y : Kept) → x ∈ met → y ∈ met → same_words_kept x y ≡ true → sooner_of_kept x y ≡ false → sooner_of_kept y x ≡ false → x ≡ y
      one x y i j e p q =
          let a = met_from x i in
          let b = met_from y j in
          let s : kept_seq x ≡ kept_seq y = one_seq kept_rank kept_seq x y (rank_real x i) (rank_real y j) p q in
          let r : a.head ≡ b.head = one_entry g good floats fs st active f a.head b.head a.among b.among (sym (kept_token a) ∙ s ∙ kept_token b) in
          let w : b.way ∈ below margin cap a.head.token.path = subst (λ (z : Ranked). b.way ∈ below margin cap z.token.path) (sym r) b.below in
          let k : same_key a.way b.way ≡ true = ap₂ same_key (sym (kept_key a)) (sym (kept_key b)) ∙ e in
          a.is ∙ ap₂ (kept_of finals) r (below_once margin cap a.head.token.path a.way b.way a.below w k) ∙ sym b.is
