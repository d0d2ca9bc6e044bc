-- Laws of filling a list: what stands, and what is to come. Assumes nothing.
use Rattle.std.specs.Prelude.{◌≡◌, ℕ, zero, suc, ◌+◌, ◌-◌, ◌*◌, ◌%◌, ◌^◌, ◌<◌, ◌≤◌, Bool, true, false, cond, not, ◌&&◌, ◌||◌, List, [], ◌∷◌, ◌++◌, length, take, ◌==◌, ◌≢◌, slice_index_or, refl, Float, Some, None}
use Rattle.std.proofs.Common.{sym, ap, ap₂, ◌∙◌, subst, inl, inr, arith, length-take-le, get_or-take, eq-eqb, ne_eqb}
use Rattle.lists.specs.Tests.{case, eq_or_not, never}
use Rattle.lists.specs.Parts.{ranges_alike}
use Rattle.model.specs.Basics.{◌≺◌, ◌⊕◌}
use Rattle.entries.specs.declared.Entry.{Entry}
use Rattle.entries.specs.declared.Way.{Way}
use Rattle.entries.specs.Entries.{no_entry, entry_at, entries, same_key, Room, EntryPut, PutNew, was_present, was_full, was_put}
use Rattle.entries.specs.Ways.{by_way, way_entries, WayAsks, Rising, WithinIs, own_next, NextAsks, PickAsks, picked, list_of, FillAsks, FillIs}
use Rattle.entries.specs.Laws.{entry_in_lem, entry_none, entries_next, entries_many, way_many, way_at}
use Rattle.entries.specs.Merging.{ToGo, go_none, go_seen, go_put, go_full, go_end, go_cap, rest, own_first_lem, kept_first_lem, rest_none, rising-take}

-- ---- an entry put, by its number

module _ {hs ns : List ℕ} {xs : List Float} {hs' ns' : List ℕ} {xs' : List Float} {to : ℕ} {b : Entry} (P : EntryPut hs ns xs hs' ns' xs' (to - 1) b) (h : 0 < to) where
  put_here : entry_at hs' ns' xs' to ≡ b
  put_here = sym (entry_in_lem hs' ns' xs' to h) ∙ P.is

  put_other : (e : ℕ) → (e ≢ to) → entry_at hs' ns' xs' e ≡ entry_at hs ns xs e
  put_other zero d = sym (entry_none hs' ns' xs' 0 refl) ∙ entry_none hs ns xs 0 refl
  put_other (suc k) d = sym (entry_in_lem hs' ns' xs' (suc k) (omega arith)) ∙ P.others (suc k - 1) (λ e. d (omega arith)) ∙ entry_in_lem hs ns xs (suc k) (omega arith)

  put_list : (from : ℕ) → from ≤ to → entries hs' ns' xs' from (to + 1 - from) ≡ entries hs ns xs from (to - from) ++ b ∷ []
  put_list from l =
      ap (entries hs' ns' xs' from) (let e : to + 1 - from ≡ to - from + 1 = omega arith in e)
      ∙ entries_next hs' ns' xs' from (to - from)
      ∙ ap₂ (λ (es : List Entry) (e : Entry). es ++ e ∷ []) (ranges_alike (entry_at hs' ns' xs') (entry_at hs ns xs) from from (to - from) (λ i u. put_other (from + i) (λ e. omega arith)))
      (ap (entry_at hs' ns' xs') (let e : from + (to - from) ≡ to = omega arith in e) ∙ put_here)

-- ---- which of the two ways comes next

next_own : (i n j m : ℕ) (c : Bool) → true ≡ (not (i == n) && (j == m || not c)) → (i ≢ n) × ((j ≢ m) → c ≡ false)
next_own i n j m c e = (λ q. never (sym (rw (eq-eqb i n q) at e)), λ d. free d c e)
  where
    free : (j ≢ m) → (c : Bool) → true ≡ (not (i == n) && (j == m || not c)) → c ≡ false
    free d false e = refl
    free d true e = never (sym (rw (ne_eqb j m d) at e ∙ none (i == n)))
      where
        none : (b : Bool) → (not b && false) ≡ false
        none true = refl
        none false = refl

next_kept : (i n j m : ℕ) (c : Bool) → false ≡ (not (i == n) && (j == m || not c)) → (i ≢ n) → (j ≢ m) × (c ≡ true)
next_kept i n j m c e d = (λ q. never (rw (ne_eqb i n d, eq-eqb j m q) at e), yes c e)
  where
    yes : (c : Bool) → false ≡ (not (i == n) && (j == m || not c)) → c ≡ true
    yes true e = refl
    yes false e = never (rw (ne_eqb i n d) at e ∙ all (j == m))
      where
        all : (b : Bool) → (b || true) ≡ true
        all true = refl
        all false = refl

-- ---- the two ways while the list is filled

-- the paths that the margin leaves, and the list that is made
abbrev left : (hs ns : List ℕ) → List Float → Way → (n : ℕ) → List Entry
left hs ns xs w n = take n (way_entries hs ns xs w)

abbrev whole : (hs ns : List ℕ) → List Float → (own kept : Way) → (margin : Float) → (cap : ℕ) → List Entry
whole hs ns xs own kept margin cap = list_of margin cap (way_entries hs ns xs own) (way_entries hs ns xs kept)

-- i own and j kept paths are done, and the entries up to `to` are filled
pub record FillTo (hs ns : List ℕ) (xs : List Float) (own kept : Way) (margin : Float) (cap from places n m : ℕ) (hs' ns' : List ℕ) (xs' : List Float) (i j to : ℕ) : Type 0 where
  pub hashes-length : length hs' ≡ length hs
  pub nexts-length : length ns' ≡ length ns
  pub sums-length : length xs' ≡ length xs
  pub own_done : i ≤ n
  pub kept_done : j ≤ m
  pub low : from ≤ to
  pub high : to ≤ places + 1
  pub few : to - from ≤ cap
  pub before : (e : ℕ) → e < from → entry_at hs' ns' xs' e ≡ entry_at hs ns xs e
  pub goes : Rising (way_entries hs ns xs own) → Rising (way_entries hs ns xs kept)
      → ToGo same_key cap (whole hs ns xs own kept margin cap) (entries hs' ns' xs' from (to - from)) (rest (left hs ns xs own n) (left hs ns xs kept m) i j)

module _ {hs ns : List ℕ} {xs : List Float} {own kept : Way} {margin : Float} {from places n m : ℕ} (A : FillAsks hs ns xs own kept from places) (W : WithinIs (way_entries hs ns xs own) margin n) (X : WithinIs (way_entries hs ns xs kept) margin m) where
  own_few : n ≤ own.count
  own_few = let z = W.few in let y = way_many hs ns xs own in omega arith

  kept_few : m ≤ kept.count
  kept_few = let z = X.few in let y = way_many hs ns xs kept in omega arith

  pub few_paths : n + m < 2 ^ 32 - 1
  few_paths = let u = own_few in let v = kept_few in let a = A.own_before in let b = A.kept_before in let f = A.free in let p = A.few in omega arith

module _ {hs ns : List ℕ} {xs : List Float} {own kept : Way} {margin : Float} {cap from places n m : ℕ} (A : FillAsks hs ns xs own kept from places) (W : WithinIs (way_entries hs ns xs own) margin n) (X : WithinIs (way_entries hs ns xs kept) margin m) where
  pub fill_none : FillTo hs ns xs own kept margin cap from places n m hs ns xs 0 0 from
  fill_none =
      record {
        hashes-length = refl;
        nexts-length = refl;
        sums-length = refl;
        own_done = omega arith;
        kept_done = omega arith;
        low = omega arith;
        high = A.free;
        few = omega arith;
        before = λ e l. refl;
        goes = λ ro rk.
            subst (λ (k : ℕ). ToGo same_key cap (whole hs ns xs own kept margin cap) (entries hs ns xs from k) (rest (left hs ns xs own n) (left hs ns xs kept m) 0 0)) (let e : 0 ≡ from - from = omega arith in e)
            (go_none margin cap n m (way_entries hs ns xs own) (way_entries hs ns xs kept) ro rk W X);
      }

  module _ {hs' ns' : List ℕ} {xs' : List Float} {i j to : ℕ} (F : FillTo hs ns xs own kept margin cap from places n m hs' ns' xs' i j to) where
    way_asks : (w : Way) → WayAsks hs ns xs w → w.first + w.count ≤ from → WayAsks hs' ns' xs' w
    way_asks w a l =
        record {
          room = record {
            hashes = let z = a.room.hashes in let y = F.hashes-length in omega arith;
            nexts = let z = a.room.nexts in let y = F.nexts-length in omega arith;
            sums = let z = a.room.sums in let y = F.sums-length in omega arith;
          };
          fits = a.fits;
          lens = λ k u. subst (λ (b : Entry). b.len + w.len < 2 ^ 32) (sym (F.before (w.first + k) (omega arith))) (a.lens k u);
        }

    pub room_left : Room hs' ns' xs' places
    room_left =
        record {
          hashes = let z = A.room.hashes in let y = F.hashes-length in omega arith;
          nexts = let z = A.room.nexts in let y = F.nexts-length in omega arith;
          sums = let z = A.room.sums in let y = F.sums-length in omega arith;
        }

    pub next_asks : NextAsks hs' ns' xs' own kept i n j m
    next_asks =
        record {
          own_way = way_asks own A.own_way A.own_before;
          kept_way = way_asks kept A.kept_way A.kept_before;
          own_few = own_few A W X;
          kept_few = kept_few A W X;
          own_done = F.own_done;
          kept_done = F.kept_done;
        }

    -- a path leads to an entry that stands as it did
    path_is : (w : Way) (n i : ℕ) → i < n → n ≤ w.count → w.first + w.count ≤ from → by_way hs' ns' xs' w (w.first + i) ≡ slice_index_or (take n (way_entries hs ns xs w)) i no_entry
    path_is w n i l u v =
        ap (λ (b : Entry). record { hash = (b.hash * w.shift % 2 ^ 64 + w.hash) % 2 ^ 64; len = b.len + w.len; cost = w.cost ⊕ b.cost; graph = w.graph ⊕ b.graph; next = w.first + i; join = w.join }) (F.before (w.first + i) (omega arith))
        ∙ sym (get_or-take n (way_entries hs ns xs w) i no_entry l ∙ way_at hs ns xs w i (omega arith))

    abbrev kept_cheaper : Bool
    kept_cheaper = (by_way hs' ns' xs' kept (kept.first + j)).cost ≺ (by_way hs' ns' xs' own (own.first + i)).cost

    module _ (l : i + j < n + m) {t : Bool} (e : t ≡ own_next hs' ns' xs' own kept i n j m) where
      own_left : t ≡ true → i < n
      own_left q = let z = (next_own i n j m kept_cheaper (sym q ∙ e)).0 in case (eq_or_not i n) (λ w. absurd (z w)) (λ w. let y = F.own_done in omega arith)

      kept_left : t ≡ false → j < m
      kept_left q =
          let a = F.own_done in
          let b = F.kept_done in
          case (eq_or_not i n) (λ w. omega arith) (λ w. let z = (next_kept i n j m kept_cheaper (sym q ∙ e) w).0 in case (eq_or_not j m) (λ v. absurd (z v)) (λ v. omega arith))

      pub pick_asks : PickAsks hs' ns' xs' own kept i j t
      pick_asks =
          record {
            own_way = next_asks.own_way;
            kept_way = next_asks.kept_way;
            in_own = λ q. let z = own_left q in let y = own_few A W X in omega arith;
            in_kept = λ q. let z = kept_left q in let y = kept_few A W X in omega arith;
          }

      -- what is picked is the first of what is to come
      next_is : Rising (left hs ns xs own n) → Rising (left hs ns xs kept m) → (s : Bool) → t ≡ s → rest (left hs ns xs own n) (left hs ns xs kept m) i j ≡ picked hs' ns' xs' own kept i j s ∷ rest (left hs ns xs own n) (left hs ns xs kept m) (cond s (i + 1) i) (cond (not s) (j + 1) j)
      next_is ro rk true q =
          let k = own_left q in
          let a = path_is own n i k (own_few A W X) A.own_before in
          let y = length-take-le n (way_entries hs ns xs own) W.few in
          let z = length-take-le m (way_entries hs ns xs kept) X.few in
          own_first_lem (left hs ns xs own n) (left hs ns xs kept m) ro rk i j (omega arith)
          (λ v. ap₂ (λ (x y : Entry). x.cost ≺ y.cost) (sym (path_is kept m j (omega arith) (kept_few A W X) A.kept_before)) (sym a) ∙ (next_own i n j m kept_cheaper (sym q ∙ e)).1 (λ w. omega arith))
          ∙ ap (λ (x : Entry). x ∷ rest (left hs ns xs own n) (left hs ns xs kept m) (i + 1) j) (sym a)
      next_is ro rk false q =
          let k = kept_left q in
          let a = path_is kept m j k (kept_few A W X) A.kept_before in
          let y = length-take-le n (way_entries hs ns xs own) W.few in
          let z = length-take-le m (way_entries hs ns xs kept) X.few in
          kept_first_lem (left hs ns xs own n) (left hs ns xs kept m) ro rk i j (omega arith)
          (λ v. ap₂ (λ (x y : Entry). x.cost ≺ y.cost) (sym a) (sym (path_is own n i (omega arith) (own_few A W X) A.own_before)) ∙ (next_kept i n j m kept_cheaper (sym q ∙ e) (λ w. omega arith)).1)
          ∙ ap (λ (x : Entry). x ∷ rest (left hs ns xs own n) (left hs ns xs kept m) i (j + 1)) (sym a)

      module _ {b : Entry} (p : b ≡ picked hs' ns' xs' own kept i j t) where
        -- b is the next
        comes : Rising (way_entries hs ns xs own) → Rising (way_entries hs ns xs kept)
            → ToGo same_key cap (whole hs ns xs own kept margin cap) (entries hs' ns' xs' from (to - from)) (b ∷ rest (left hs ns xs own n) (left hs ns xs kept m) (cond t (i + 1) i) (cond (not t) (j + 1) j))
        comes ro rk =
            subst (ToGo same_key cap (whole hs ns xs own kept margin cap) (entries hs' ns' xs' from (to - from)))
            (next_is (rising-take (way_entries hs ns xs own) n W.few ro) (rising-take (way_entries hs ns xs kept) m X.few rk) t refl ∙ ap (λ (x : Entry). x ∷ rest (left hs ns xs own n) (left hs ns xs kept m) (cond t (i + 1) i) (cond (not t) (j + 1) j)) (sym p)) (F.goes ro rk)

        own_moved : (s : Bool) → t ≡ s → cond s (i + 1) i ≤ n
        own_moved true q = let z = own_left q in omega arith
        own_moved false q = F.own_done

        kept_moved : (s : Bool) → t ≡ s → cond (not s) (j + 1) j ≤ m
        kept_moved true q = F.kept_done
        kept_moved false q = let z = kept_left q in omega arith

        module _ {hs'' ns'' : List ℕ} {xs'' : List Float} (d : to - from ≡ cap → ⊥) where
          -- unless the places are full the filling goes on
          fill_next : (r : ℕ) → length hs'' ≡ length hs' → length ns'' ≡ length ns' → length xs'' ≡ length xs' → PutNew hs' ns' xs' hs'' ns'' xs'' from to places b (Some r)
              → FillTo hs ns xs own kept margin cap from places n m hs'' ns'' xs'' (cond t (i + 1) i) (cond (not t) (j + 1) j) r
          fill_next r u v w (was_present k qh qn qx) =
              record {
                hashes-length = u ∙ F.hashes-length;
                nexts-length = v ∙ F.nexts-length;
                sums-length = w ∙ F.sums-length;
                own_done = own_moved t refl;
                kept_done = kept_moved t refl;
                low = F.low;
                high = F.high;
                few = F.few;
                before = λ e l. (λ z. entry_at (qh z) (qn z) (qx z) e) ∙ F.before e l;
                goes = λ ro rk.
                    subst (λ (es : List Entry). ToGo same_key cap (whole hs ns xs own kept margin cap) es (rest (left hs ns xs own n) (left hs ns xs kept m) (cond t (i + 1) i) (cond (not t) (j + 1) j)))
                    (λ z. entries (sym qh z) (sym qn z) (sym qx z) from (to - from)) (go_seen (comes ro rk) k);
              }
          fill_next r u v w (was_put k l P) =
              let y = A.begins in
              let x = F.low in
              let f = F.few in
              let many = entries_many hs' ns' xs' from (to - from) in
              record {
                hashes-length = u ∙ F.hashes-length;
                nexts-length = v ∙ F.nexts-length;
                sums-length = w ∙ F.sums-length;
                own_done = own_moved t refl;
                kept_done = kept_moved t refl;
                low = omega arith;
                high = omega arith;
                few = omega arith;
                before = λ e l. put_other P (omega arith) e (λ q. omega arith) ∙ F.before e l;
                goes = λ ro rk.
                    subst (λ (es : List Entry). ToGo same_key cap (whole hs ns xs own kept margin cap) es (rest (left hs ns xs own n) (left hs ns xs kept m) (cond t (i + 1) i) (cond (not t) (j + 1) j)))
                    (sym (put_list P (omega arith) from x)) (go_put (comes ro rk) k (omega arith));
              }

          pub fill_moved : (r : ℕ) → length hs'' ≡ length hs' → length ns'' ≡ length ns' → length xs'' ≡ length xs' → PutNew hs' ns' xs' hs'' ns'' xs'' from to places b (Some r)
              → (i' j' : ℕ) → i' ≡ cond t (i + 1) i → j' ≡ cond (not t) (j + 1) j → FillTo hs ns xs own kept margin cap from places n m hs'' ns'' xs'' i' j' r
          fill_moved r u v w P i' j' q s = subst (λ (k : ℕ). FillTo hs ns xs own kept margin cap from places n m hs'' ns'' xs'' k j' r) (sym q) (subst (λ (k : ℕ). FillTo hs ns xs own kept margin cap from places n m hs'' ns'' xs'' (cond t (i + 1) i) k r) (sym s) (fill_next r u v w P))

          pub fill_full : PutNew hs' ns' xs' hs'' ns'' xs'' from to places b None → FillIs hs ns xs hs'' ns'' xs'' own kept margin cap from places None
          fill_full (was_full k l qh qn qx) =
              record {
                before = λ e l. (λ z. entry_at (qh z) (qn z) (qx z) e) ∙ F.before e l;
                fits = tt;
                on = tt;
                is = λ ro rk.
                    let many = entries_many hs' ns' xs' from (to - from) in
                    let y = F.low in
                    let f = F.few in
                    let more = go_full (comes ro rk) k (omega arith) in
                    inl (refl, omega arith);
              }

    -- the list stands
    stands : (Rising (way_entries hs ns xs own) → Rising (way_entries hs ns xs kept) → entries hs' ns' xs' from (to - from) ≡ (whole hs ns xs own kept margin cap)) → FillIs hs ns xs hs' ns' xs' own kept margin cap from places (Some to)
    stands f =
        record {
          before = F.before;
          fits = F.high;
          on = F.low;
          is = λ ro rk.
              let x = F.low in
              let many = sym (entries_many hs' ns' xs' from (to - from)) ∙ ap length (f ro rk) in
              inr (ap Some (omega arith), ap (entries hs' ns' xs' from) (sym many) ∙ f ro rk);
        }

    pub fill_cap : to - from ≡ cap → FillIs hs ns xs hs' ns' xs' own kept margin cap from places (Some to)
    fill_cap e = stands (λ ro rk. go_cap (F.goes ro rk) (entries_many hs' ns' xs' from (to - from) ∙ e))

    pub fill_end : n + m ≤ i + j → FillIs hs ns xs hs' ns' xs' own kept margin cap from places (Some to)
    fill_end l =
        stands
        (λ ro rk.
        let a = F.own_done in
        let b = F.kept_done in
        let y = length-take-le n (way_entries hs ns xs own) W.few in
        let z = length-take-le m (way_entries hs ns xs kept) X.few in
        go_end (subst (ToGo same_key cap (whole hs ns xs own kept margin cap) (entries hs' ns' xs' from (to - from))) (rest_none (left hs ns xs own n) (left hs ns xs kept m) i j (omega arith) (omega arith)) (F.goes ro rk)))

-- one of the two moves on
pub moves_one : (t : Bool) (i j i' j' : ℕ) → i' ≡ cond t (i + 1) i → j' ≡ cond (not t) (j + 1) j → i' + j' ≡ i + j + 1
moves_one true i j i' j' p q = omega arith
moves_one false i j i' j' p q = omega arith
