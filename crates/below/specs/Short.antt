-- Whatever the costs are: the lists stand before the next free entry, and no entry of record j's list has more than j words. Assumes nothing.
use Rattle.std.specs.Prelude.{◌≡◌, refl, ℕ, zero, suc, ◌+◌, ◌-◌, ◌≤◌, ◌<◌, List, Float}
use Rattle.std.proofs.Common.{sym, ap, ◌∙◌, subst, arith}
use Rattle.lists.specs.Tests.{case, eq_or_not}
use Rattle.lists.specs.Lists.{◌∈◌, range}
use Rattle.lists.specs.Members.{map_from}
use Rattle.entries.specs.declared.Entry.{Entry}
use Rattle.entries.specs.declared.Way.{Way}
use Rattle.entries.specs.Entries.{entry_at}
use Rattle.entries.specs.Ways.{by_way, way_entries}
use Rattle.below.specs.Stored.{first_at, count_at}
use Rattle.below.specs.Maps.{range_member}

-- also of a list that is only marked: its one entry is then the start
pub record Short (lists hs ns : List ℕ) (xs : List Float) (used next : ℕ) : Type 0 where
  pub before : (j : ℕ) → j ≤ used → first_at lists j + count_at lists j ≤ next
  pub short : (j : ℕ) → j ≤ used → (i : ℕ) → i < count_at lists j → (entry_at hs ns xs (first_at lists j + i)).len ≤ j

-- where every list is none, or one entry that is the start
pub short_marks : (lists hs ns : List ℕ) (xs : List Float) (used : ℕ) → ((j : ℕ) → 0 < j → j ≤ used → first_at lists j ≡ 0) → ((j : ℕ) → 0 < j → j ≤ used → count_at lists j ≤ 1) → Short lists hs ns xs used 1
unfolding entry_at
short_marks lists hs ns xs used f c = record { before = before; short = λ j u i l. start (first_at lists j + i) j (let z = (sum_is j u).0 in let y = (sum_is j u).1 in omega arith) }
  where
    sum_is : (j : ℕ) → j ≤ used → (first_at lists j ≡ 0) × (count_at lists j ≤ 1)
    sum_is zero u = (refl, omega arith)
    sum_is (suc j) u = (f (suc j) (omega arith) u, c (suc j) (omega arith) u)

    before : (j : ℕ) → j ≤ used → first_at lists j + count_at lists j ≤ 1
    before j u = let z = (sum_is j u).0 in let y = (sum_is j u).1 in omega arith

    start : (e j : ℕ) → e ≡ 0 → (entry_at hs ns xs e).len ≤ j
    start e j q = rw q (omega arith)

module _ {lists hs ns : List ℕ} {xs : List Float} {used next : ℕ} (s : Short lists hs ns xs used next) where
  -- the entries of a way that leads to record e's list
  pub way_short : (w : Way) (e : ℕ) → e ≤ used → w.first ≡ first_at lists e → w.count ≤ count_at lists e → (b : Entry) → b ∈ way_entries hs ns xs w → b.len ≤ e + w.len
  way_short w e u f c b m =
      let (k, i, q) = map_from (by_way hs ns xs w) (range w.first w.count) b m in
      let x = (range_member w.first w.count k i).0 in
      let y = (range_member w.first w.count k i).1 in
      let p : first_at lists e + (k - first_at lists e) ≡ k = omega arith in
      let z : (entry_at hs ns xs k).len ≤ e = subst (λ (k : ℕ). (entry_at hs ns xs k).len ≤ e) p (s.short e u (k - first_at lists e) (omega arith)) in
      let v = ap (λ (x : Entry). x.len) q in
      omega arith

  -- A list is put for record r, made of entries that are as short.
  pub short_put : (lists' hs' ns' : List ℕ) (xs' : List Float) (r n : ℕ) → next ≤ n → ((e : ℕ) → e < next → entry_at hs' ns' xs' e ≡ entry_at hs ns xs e)
      → ((e : ℕ) → next ≤ e → e < n → (entry_at hs' ns' xs' e).len ≤ r) → ((j : ℕ) → (j ≡ r → ⊥) → first_at lists' j ≡ first_at lists j) → ((j : ℕ) → (j ≡ r → ⊥) → count_at lists' j ≡ count_at lists j)
      → first_at lists' r ≡ next → count_at lists' r ≡ n - next → Short lists' hs' ns' xs' used n
  short_put lists' hs' ns' xs' r n l old new fs cs f c =
      record {
        before = λ j u. case (eq_or_not j r) (λ e. subst (λ (j : ℕ). first_at lists' j + count_at lists' j ≤ n) (sym e) (omega arith))
            (λ d. let a = fs j d in let b = cs j d in let z = s.before j u in omega arith);
        short = λ j u i v. case (eq_or_not j r)
            (λ e.
            let v' : i < count_at lists' r = subst (λ (j : ℕ). i < count_at lists' j) e v in
            subst (λ (j : ℕ). (entry_at hs' ns' xs' (first_at lists' j + i)).len ≤ j) (sym e) (new (first_at lists' r + i) (omega arith) (omega arith)))
            (λ d.
            let a = fs j d in
            let b = cs j d in
            let z = s.before j u in
            let e : entry_at hs' ns' xs' (first_at lists' j + i) ≡ entry_at hs ns xs (first_at lists j + i) = old (first_at lists' j + i) (omega arith) ∙ ap (λ (k : ℕ). entry_at hs ns xs (k + i)) a in
            subst (λ (x : Entry). x.len ≤ j) (sym e) (s.short j u i (omega arith)));
      }
