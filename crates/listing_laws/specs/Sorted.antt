-- The kept readings in their order: the definition's map, sorted as the list is. Assumes nothing.
use Rattle.std.specs.Prelude.{◌≡◌, ℕ, suc, Bool, false, List, map, ℤ, length, take, Float}
use Rattle.std.proofs.Common.{sym, ◌∙◌, subst, arith}
use Rattle.std.proofs.lemmas.Simd.{map-map}
use Rattle.lists.specs.Lists.{◌∈◌, range}
use Rattle.lists.specs.Members.{map_to}
use Rattle.lists.specs.Order.{Perm, perm_sym, perm_then, perm_member, Sorted}
use Rattle.model.specs.Readings.{Below, Kept, kept_group, is_own, read_order}
use Rattle.copy_laws.proofs.Folded.{perm-map}
use Rattle.below.specs.Stored.{Decoded}
use Rattle.kept_readings.specs.declared.KeptReading.{KeptReading}
use Rattle.kept_readings.specs.Kept.{kept_read_in, kept_list}
use Rattle.kept_readings.specs.Meaning.{as_kept}
use Rattle.kept_order.specs.Before.{kept_is_before}
use Rattle.kept_order.specs.Asks.{OrderIs}
use Rattle.listing_laws.specs.Situation.{Situation, Held}
use Rattle.listing_laws.specs.Alike.{sorted-map}
use Rattle.listing_laws.specs.Owns.{rank_in}
use Rattle.listing_laws.specs.Words.{before_is}
use Rattle.listing_laws.specs.Members.{KeptHeld}

-- its first are the numbers below r
pub in_order : {before : ℕ → ℕ → Bool} {r : ℕ} {order : List ℕ} → OrderIs before r order → (i : ℕ) → i ∈ take r order → i ∈ range 0 r
in_order O i m = perm_member (perm_sym O.perm) i m

module _ {tk : List ℕ} {sm fs : List Float} {rs : List ℕ} {ls : List ℤ} {gs : List Float} {n b used : ℕ} {keeps : Bool} {margin : Float} (S : Situation tk sm fs rs ls gs n b used keeps margin) (counts : Bool) {hs ns : List ℕ} {xs : List Float} {bs : List Below} (D : Decoded S.h used hs ns xs bs)
    (khs kns : List ℕ) (kxs : List Float) (r : ℕ) (order : List ℕ) (O : OrderIs (kept_is_before tk rs ls b ns khs kns kxs) r order) where
  -- what kept reading number i stands for
  abbrev pub kept_at : ℕ → Kept
  kept_at i = as_kept (rank_in S counts) bs (kept_read_in khs kns kxs i)

  -- every one of them is of an active state, by an entry that was put, and takes some kept path
  pub record Met (ss : List ℕ) (next : ℕ) : Type 0 where
    pub held : (k : KeptReading) → k ∈ kept_list khs kns kxs r → KeptHeld S counts ss next k
    pub active : (s : ℕ) → s ∈ ss → Held tk b n s
    pub many : next ≡ suc (length bs)
    pub foreign : (k : KeptReading) → k ∈ kept_list khs kns kxs r → is_own (kept_group (as_kept (rank_in S counts) bs k)) ≡ false

  module _ {ss : List ℕ} {next : ℕ} (M : Met ss next) where
    in_list : (i : ℕ) → i ∈ take r order → kept_read_in khs kns kxs i ∈ kept_list khs kns kxs r
    in_list i m = map_to (kept_read_in khs kns kxs) (range 0 r) i (in_order O i m)

    agree : (i j : ℕ) → i ∈ take r order → j ∈ take r order → kept_is_before tk rs ls b ns khs kns kxs i j ≡ read_order (kept_group (kept_at i)) (kept_group (kept_at j))
    unfolding kept_is_before
    agree i j p q =
        let x = M.held (kept_read_in khs kns kxs i) (in_list i p) in
        let y = M.held (kept_read_in khs kns kxs j) (in_list j q) in
        before_is S counts D (kept_read_in khs kns kxs i) (kept_read_in khs kns kxs j) (M.active _ x.state_in) (M.active _ y.state_in) (let z = x.entry_low in let w = M.many in omega arith) (let z = y.entry_low in let w = M.many in omega arith)
        (M.foreign (kept_read_in khs kns kxs i) (in_list i p)) (M.foreign (kept_read_in khs kns kxs j) (in_list j q)) x.seq y.seq

    -- their groups are sorted as the list is
    pub kept_sorted : Sorted read_order (map (λ (i : ℕ). kept_group (kept_at i)) (take r order))
    kept_sorted = sorted-map (kept_is_before tk rs ls b ns khs kns kxs) read_order (λ (i : ℕ). kept_group (kept_at i)) (take r order) (λ i j p q e. sym (agree i j p q) ∙ e) O.sorted

  -- in this order they are the definition's map too
  pub kept_perm : (K : List Kept) → Perm (map (as_kept (rank_in S counts) bs) (kept_list khs kns kxs r)) K → Perm K (map kept_at (take r order))
  kept_perm K P =
      perm_then (perm_sym P)
      (subst (λ (l : List Kept). Perm l (map kept_at (take r order))) (sym (map-map (as_kept (rank_in S counts) bs) (kept_read_in khs kns kxs) (range 0 r))) (perm-map kept_at O.perm))
