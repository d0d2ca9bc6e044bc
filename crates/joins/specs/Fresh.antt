-- A number not yet given out is on no history. Assumes nothing.
use Rattle.std.specs.Prelude.{◌≡◌, refl, Bool, true, false, List, ◌∷◌, eqb}
use Rattle.std.proofs.Common.{sym, arith, ne_eqb}
use Prim.Native.Nat.{ℕ, zero, suc, ◌≤◌, ◌<◌}
use Rattle.std.proofs.lemmas.Bool.{eqb-false}
use Rattle.lists.specs.Tests.{or_neither}
use Rattle.model.specs.Path.{memℕ}
use Rattle.records.specs.History.{History, no_history, link_onto, join_on, tag}
use Rattle.records.specs.Layout.{Store, Rec, rec_at, is_link_rec}
use Rattle.records.specs.Stands.{Stands, top, top_by, tag_top}
use Rattle.joins.specs.Worth.{numbers, above_of, among}

pub numbers_top : (r : Rec) (m : ℕ) (t q : History) → numbers (top r m t q) ≡ m ∷ numbers t
unfolding numbers
numbers_top r m t q = go (is_link_rec r)
  where
    go : (b : Bool) → numbers (top_by b r m t q) ≡ m ∷ numbers t
    go true = refl
    go false = refl

-- a number that is not on a history stops nothing there
pub skip : (v : ℕ) (ns : List ℕ) (t : History) → among (numbers t) v ≡ false → above_of (among (v ∷ ns)) t ≡ above_of (among ns) t
unfolding above_of among numbers
skip v ns no_history e = refl
skip v ns (link_onto m f w st t) e =
    let d = or_neither (eqb v m) (memℕ v (numbers t)) e in
    simp (ne_eqb m v (λ q. eqb-false v m d.0 (sym q)), skip v ns t d.1)
skip v ns (join_on m f b k t) e =
    let d = or_neither (eqb v m) (memℕ v (numbers t)) e in
    simp (ne_eqb m v (λ q. eqb-false v m d.0 (sym q)), skip v ns t d.1)

among_none : (v n : ℕ) (ns : List ℕ) → (v ≡ n → ⊥) → among ns v ≡ false → among (n ∷ ns) v ≡ false
unfolding among
among_none v n ns d e = simp (ne_eqb v n d, e)

module _ (s : Store) (n : ℕ) (h : ℕ → History) (ok : Stands s n h) where
  pub tag_each : (k : ℕ) (l : k < n) → tag (h (suc k)) ≡ suc (ok.each k l).number
  tag_each k l = rw (ok.each k l).is (tag_top (rec_at s k) (ok.each k l).number (h (rec_at s k).prev) (h (rec_at s k).kept))

  -- by induction on a bound of the record's number
  absent_upto : (b k v : ℕ) → k ≤ b → k ≤ n → tag (h k) ≤ v → among (numbers (h k)) v ≡ false
  unfolding among numbers
  absent_upto zero zero v e l a = rw ok.none
  absent_upto (suc b) zero v e l a = rw ok.none
  absent_upto zero (suc k) v e l a = absurd (omega arith)
  absent_upto (suc b) (suc k) v e l a =
      let r = rec_at s k in
      let m = (ok.each k l).number in
      let p = (ok.each k l).prev_low in
      let t : tag (h (suc k)) ≡ suc m = tag_each k l in
      let u : tag (h r.prev) < tag (h (suc k)) = ok.ascends r.prev (suc k) (omega arith) l in
      rw ((ok.each k l).is, numbers_top r m (h r.prev) (h r.kept))
      (among_none v m (numbers (h r.prev)) (λ q. omega arith) (absent_upto b r.prev v (omega arith) (omega arith) (omega arith)))

  -- one that is not below the record's own is not on its history
  pub absent : (k v : ℕ) → k ≤ n → tag (h k) ≤ v → among (numbers (h k)) v ≡ false
  absent k v l a = absent_upto k k v (omega arith) l a
