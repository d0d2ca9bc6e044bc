-- The walk that lists the states whose tokens count. Assumes nothing.
use Rattle.std.specs.Prelude.{◌≡◌, refl, ℕ, ◌+◌, ◌≤◌, ◌<◌, Bool, List, Float, Option}
use Rattle.std.proofs.Common.{sym, ◌∙◌, subst, arith}
use Rattle.tokens.specs.Layout.{held_at, place_in, NextActive}
use Rattle.sorting.specs.Moves.{Kept, kept_then}
use Rattle.traceback.specs.declared.Candidate.{Candidate}
use Rattle.traceback.specs.Ranks.{candidate_at}
use Rattle.ranking.specs.Listed.{PutAsks, Put, Listed, listed_none, listed_skip, listed_put}
use Rattle.ranking.specs.Ranked.{RankAsks}

-- At s, the next active state or the end: those below it are listed.
pub record Listing (tk : List ℕ) (sm fs : List Float) (b n : ℕ) (counts : Bool) (keys keys' order order' : List ℕ) (m s : ℕ) : Type 0 where
  pub upto : s ≤ n
  pub active : s < n → held_at tk (place_in b s) ≡ 0 → ⊥
  pub listed : Listed tk sm fs b counts s keys' order' m
  pub kept : Kept keys keys' order order'

module _ {tk : List ℕ} {sm fs : List Float} {b n : ℕ} {counts : Bool} {keys order : List ℕ} where
  pub listing_begun : {s : ℕ} → NextActive tk b 0 n s → Listing tk sm fs b n counts keys keys order order 0 s
  listing_begun a = record { upto = a.upto; active = a.active; listed = listed_skip a (listed_none keys order); kept = record { keys_length = refl; items-length = refl } }

  module _ {keys' order' : List ℕ} {m s : ℕ} (w : Listing tk sm fs b n counts keys keys' order order' m s) where
    pub listing_done : n ≤ s → Listed tk sm fs b counts n keys' order' m
    listing_done l = let u = w.upto in subst (λ (i : ℕ). Listed tk sm fs b counts i keys' order' m) (omega arith) w.listed

    module _ {best : Option Candidate} (e : best ≡ candidate_at tk sm fs b s counts) (l : s < n) where
      pub listing_asks : RankAsks tk sm fs b n counts keys order → PutAsks keys' order' m best
      listing_asks a =
          let f = w.listed.few in
          let k = w.kept in
          record { keys_long = omega (arith, a.keys_long); order_long = omega (arith, a.order_long); known = λ c q. a.known s l (w.active l) c (sym e ∙ q) }

      pub listing_on : {keys'' order'' : List ℕ} {r t : ℕ} → Kept keys' keys'' order' order'' → Put keys' keys'' order' order'' m best r → NextActive tk b (s + 1) n t → Listing tk sm fs b n counts keys keys'' order order'' r t
      listing_on k p a =
          record { upto = a.upto; active = a.active; listed = listed_skip a (listed_put (w.active l) e w.listed p); kept = kept_then w.kept k }
