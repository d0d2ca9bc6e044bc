-- What the entries stand for, as their list grows. Assumes nothing.
use Rattle.std.specs.Prelude.{◌≡◌, ◌⊎◌, Bool, not, List, [], ◌∷◌, ◌++◌, map, take, Float}
use Rattle.std.proofs.Math.Path.{refl, sym, ap, subst}
use Rattle.std.proofs.Common.{◌∙◌, length-append}
use Prim.Native.Nat.{ℕ, zero, suc, ◌+◌, ◌-◌, ◌≤◌, ◌<◌}
use native.Mathlib.Omega.{arith}
use mathlib.Core.List.Memᴰ
use Rattle.std.proofs.lemmas.List.{map-append, length-map}
use Rattle.std.proofs.Math.ListN.{length, get_or, get_or-append, get_or-map}
use Rattle.std.proofs.Math.Seq.{get_or-append-add}
use Rattle.lists.specs.Tests.{case, lt_or_le}
use Rattle.lists.specs.Lists.{◌∈◌, keep_if, sort_by, firsts, range}
use Rattle.lists.specs.Members.{at_member, get_d_any, take_from, keep_from, sort_from, firsts_from, map_from}
use Rattle.lists.specs.Parts.{range_at, ranges_alike}
use Rattle.model.specs.Basics.{◌≺◌}
use Rattle.model.specs.Readings.{Below, at_start, same_key, cheapest}
use Rattle.records.specs.History.{History}
use Rattle.entries.specs.declared.Entry.{Entry}
use Rattle.entries.specs.declared.Way.{Way}
use Rattle.entries.specs.Entries.{no_entry, entry_in, entry_at, entries, same_key as same_entry}
use Rattle.entries.specs.Ways.{by_way as entry_by, way_entries, list_of}
use Rattle.below.specs.Stored.{via, stands_for, as_below, Decoded, first_at, count_at, list_at}
use Rattle.below.specs.Maps.{keep-map, sort_map, firsts-map, take_map, map_same, range_member}

-- ---- the list that is made of two ways

-- what it stands for is the definition's list of what they stand for
pub list_stands : (h : ℕ → History) (bs : List Below) (margin : Float) (cap : ℕ) (own kept : List Entry)
    → map (as_below h bs) (list_of margin cap own kept) ≡ cheapest cap (keep_if (λ (b : Below). not (margin ≺ b.cost)) (map (as_below h bs) own ++ map (as_below h bs) kept))
unfolding list_of cheapest
list_stands h bs margin cap own kept =
    sym (ap (λ (l : List Below). cheapest cap (keep_if fit l)) (sym (map-append f own kept)) ∙
    ap (cheapest cap) (keep-map f fit (own ++ kept)) ∙ ap (λ (l : List Below). take cap (firsts same_key [] l)) (sort_map f cheaper passed) ∙
    ap (take cap) (firsts-map f same_key [] sorted) ∙ take_map f cap (firsts same_entry [] sorted))
  where
    f : Entry → Below
    f = as_below h bs

    fit : Below → Bool
    fit b = not (margin ≺ b.cost)

    cheaper : Below → Below → Bool
    cheaper a b = a.cost ≺ b.cost

    passed : List Entry
    passed = keep_if (λ (b : Entry). not (margin ≺ b.cost)) (own ++ kept)

    sorted : List Entry
    sorted = sort_by (λ (a b : Entry). a.cost ≺ b.cost) passed

-- and each of its entries is of one of them
pub list_from : (margin : Float) (cap : ℕ) (own kept : List Entry) (e : Entry) → e ∈ list_of margin cap own kept → (e ∈ own) ⊎ (e ∈ kept)
unfolding list_of
list_from margin cap own kept e m = Memᴰ.append_cases own (keep_from _ (own ++ kept) e (sort_from _ _ e (firsts_from same_entry [] _ e (take_from cap _ e m))))

-- an entry of a way goes on with one of the next join's list
pub way_from : (hs ns : List ℕ) (xs : List Float) (w : Way) (e : Entry) → e ∈ way_entries hs ns xs w → (w.first ≤ e.next) × (e.next < w.first + w.count) × (e.join ≡ w.join)
way_from hs ns xs w e m =
    let (i, k, q) = map_from (entry_by hs ns xs w) (range w.first w.count) e m in
    let z = range_member w.first w.count i k in
    let p = ap (λ (x : Entry). x.next) q in
    (rw p z.0, rw p z.1, ap (λ (x : Entry). x.join) q)

-- ---- what entries stood for, they stand for

-- one entry
pub stands_old : (bs cs : List Below) (e : ℕ) → e ≤ length bs → stands_for (bs ++ cs) e ≡ stands_for bs e
stands_old bs cs zero l = refl
stands_old bs cs (suc i) l = get_or-append bs cs at_start i l

-- a join's list
pub list_old : (lists : List ℕ) (bs cs : List Below) (j : ℕ) → first_at lists j + count_at lists j ≤ suc (length bs) → list_at lists (bs ++ cs) j ≡ list_at lists bs j
list_old lists bs cs j l =
    map_same (stands_for (bs ++ cs)) (stands_for bs) (range (first_at lists j) (count_at lists j))
    (λ e m. let z = (range_member (first_at lists j) (count_at lists j) e m).1 in stands_old bs cs e (omega arith))

-- the newest entries
pub list_new : (bs cs : List Below) → map (stands_for (bs ++ cs)) (range (suc (length bs)) (length cs)) ≡ cs
list_new bs cs = ranges_alike (stands_for (bs ++ cs)) (λ (i : ℕ). get_or cs i at_start) (suc (length bs)) 0 (length cs) (λ i l. ap (stands_for (bs ++ cs)) (let e : suc (length bs) + i ≡ suc (length bs + i) = omega arith in e) ∙ get_or-append-add bs cs i at_start ∙ ap (λ (k : ℕ). get_or cs k at_start) (let e : i ≡ 0 + i = omega arith in e)) ∙ all_of cs
  where
    all_of : (cs : List Below) → map (λ (i : ℕ). get_or cs i at_start) (range 0 (length cs)) ≡ cs
    all_of [] = refl
    all_of (c ∷ cs) = ap (λ (l : List Below). c ∷ l) (ranges_alike (λ (i : ℕ). get_or (c ∷ cs) i at_start) (λ (i : ℕ). get_or cs i at_start) 1 0 (length cs) (λ i l. ap (λ (k : ℕ). get_or (c ∷ cs) k at_start) (let e : 1 + i ≡ suc i = omega arith in e) ∙ ap (λ (k : ℕ). get_or cs k at_start) (let e : i ≡ 0 + i = omega arith in e)) ∙ all_of cs)

as_old : (h : ℕ → History) (bs cs : List Below) (e : Entry) → e.next ≤ length bs → as_below h (bs ++ cs) e ≡ as_below h bs e
as_old h bs cs e l =
    ap (λ (b : Below). record { hash = e.hash; len = e.len; cost = e.cost; graph = e.graph; route = via h e.join ++ b.route }) (stands_old bs cs e.next l)

-- ---- the entries

module _ {h : ℕ → History} {used : ℕ} {hs ns : List ℕ} {xs : List Float} {bs : List Below} (d : Decoded h used hs ns xs bs) where
  -- entry e, the start too
  pub decoded_at : (e : ℕ) → e ≤ length bs → stands_for bs e ≡ as_below h bs (entry_at hs ns xs e)
  unfolding entry_at
  decoded_at zero l = refl
  decoded_at (suc i) l = d.is i l

  -- Entries are put behind them that go on with these.
  pub decoded_more : (hs' ns' : List ℕ) (xs' : List Float) (es : List Entry) → ((i : ℕ) → i < length bs → entry_in hs' ns' xs' i ≡ entry_in hs ns xs i)
      → entries hs' ns' xs' (suc (length bs)) (length es) ≡ es → ((e : Entry) → e ∈ es → e.next ≤ length bs) → ((e : Entry) → e ∈ es → e.join ≤ used)
      → Decoded h used hs' ns' xs' (bs ++ map (as_below h bs) es)
  unfolding entry_at
  decoded_more hs' ns' xs' es same new next join =
      record {
        next_low = λ i l. case (lt_or_le i (length bs))
            (λ a. subst (λ (e : Entry). e.next ≤ i) (sym (same i a)) (d.next_low i a))
            (λ a. let u : i - length bs < length es = within i l a in let z = next (get_or es (i - length bs) no_entry) (at_member es (i - length bs) no_entry u) in subst (λ (e : Entry). e.next ≤ i) (sym (placed i l a)) (omega arith));
        join_low = λ i l. case (lt_or_le i (length bs))
            (λ a. subst (λ (e : Entry). e.join ≤ used) (sym (same i a)) (d.join_low i a))
            (λ a. let u : i - length bs < length es = within i l a in subst (λ (e : Entry). e.join ≤ used) (sym (placed i l a)) (join (get_or es (i - length bs) no_entry) (at_member es (i - length bs) no_entry u)));
        is = λ i l. case (lt_or_le i (length bs))
            (λ a.
            let z = d.next_low i a in
            get_or-append bs cs at_start i a ∙ d.is i a ∙ sym (as_old h bs cs (entry_in hs ns xs i) (omega arith)) ∙ ap (as_below h (bs ++ cs)) (sym (same i a)))
            (λ a.
            let k = i - length bs in
            let u : k < length es = within i l a in
            let q : i ≡ length bs + k = omega arith in
            ap (λ (j : ℕ). get_or (bs ++ cs) j at_start) q ∙ get_or-append-add bs cs k at_start ∙
            get_d_any cs k at_start (f no_entry) (rw (length-map es f) u) ∙ get_or-map f es k no_entry ∙
            sym (as_old h bs cs (get_or es k no_entry) (next (get_or es k no_entry) (at_member es k no_entry u))) ∙ ap (as_below h (bs ++ cs)) (sym (placed i l a)));
      }
    where
      f : Entry → Below
      f = as_below h bs

      cs : List Below
      cs = map f es

      within : (i : ℕ) → i < length (bs ++ cs) → length bs ≤ i → i - length bs < length es
      within i l a = let z = length-append bs cs in let y = length-map es f in omega arith

      placed : (i : ℕ) → i < length (bs ++ cs) → length bs ≤ i → entry_in hs' ns' xs' i ≡ get_or es (i - length bs) no_entry
      placed i l a =
          let k = i - length bs in
          let q : suc i ≡ suc (length bs) + k = omega arith in
          ap (entry_at hs' ns' xs') q ∙ sym (range_at (entry_at hs' ns' xs') (suc (length bs)) (length es) k no_entry (within i l a)) ∙ ap (λ (l : List Entry). get_or l k no_entry) new
