-- The lists are filled record by record, in ascending order: how far it has come, and what one join adds. Assumes nothing.
use Rattle.std.specs.Prelude.{◌≡◌, refl, ◌⊎◌, ℕ, suc, ◌+◌, ◌-◌, ◌≤◌, ◌<◌, Bool, true, false, cond, List, [], ◌++◌, map, T, ℤ, length, get_or, Float, Option, Some, None}
use Rattle.std.proofs.Common.{sym, ap, ◌∙◌, subst, arith, length-append}
use Rattle.std.proofs.lemmas.List.{length-map}
use Rattle.std.proofs.lemmas.Option.{none-some, same_Some}
use Rattle.lists.specs.Tests.{case, never, lt_or_le, holds, is_true}
use Rattle.lists.specs.Lists.{◌∈◌, range}
use Rattle.lists.specs.Members.{at_member, map_to, keep_to, keep_passes}
use Rattle.lists.specs.Parts.{range_at}
use Rattle.real32.specs.Small.{huge}
use Rattle.model.specs.Basics.{◌≺◌, ◌≼◌}
use Rattle.model.specs.Readings.{Below}
use Rattle.records.specs.History.{History}
use Rattle.records.specs.Layout.{store, cost_at}
use Rattle.records.specs.Stands.{Stands}
use Rattle.histories.specs.Reading.{is_join_at}
use Rattle.entries.specs.declared.Entry.{Entry}
use Rattle.entries.specs.declared.Way.{Way}
use Rattle.entries.specs.Entries.{no_entry, entry_in, entry_at, entries}
use Rattle.entries.specs.Ways.{way_entries, list_of, FillIs}
use Rattle.below.specs.Lists.{below_of}
use Rattle.below.specs.Stored.{as_below, Decoded, first_at, count_at, list_at}
use Rattle.below.specs.Ways.{OwnWay, KeptWay}
use Rattle.below.specs.Filling.{entries_below, Outcome, was_filled}
use Rattle.below.specs.Maps.{range_in}
use Rattle.below.specs.Lengths.{below_len}
use Rattle.below.specs.Decoding.{list_from, way_from, decoded_more}
use Rattle.below.specs.Steps.{Filled, filled_start, filled_more, filled_same, filled_new, prev_below, kept_below_lem, list_is, own_rises, kept_rises}
use Rattle.below.specs.Sums.{passing, passing_once, passing_low, sum_to, sum_next, sum_upto}
use Rattle.below.specs.Totals.{IsVisited, visited_root, visited_own, visited_kept, visited_join, entries_are}

-- The lists of the first r records are filled, of those that pass `wanted`; `next` is the next free entry.
pub record Progress (h : ℕ → History) (used : ℕ) (margin : Float) (cap : ℕ) (wanted : ℕ → Bool) (lists hs ns : List ℕ) (xs : List Float) (places r next : ℕ) : Type 0 where
  pub bs : List Below
  pub many : next ≡ suc (length bs)
  pub fits : next ≤ places + 1
  pub decoded : Decoded h used hs ns xs bs
  pub total : length bs ≡ sum_to wanted (λ (j : ℕ). length (below_of margin cap (h j))) r
  pub filled : (j : ℕ) → 0 < j → j ≤ r → wanted j ≡ true → Filled h margin cap lists bs j

-- before the first
pub progress_none : (h : ℕ → History) (used : ℕ) (margin : Float) (cap : ℕ) (wanted : ℕ → Bool) (lists hs ns : List ℕ) (xs : List Float) (places : ℕ) → Progress h used margin cap wanted lists hs ns xs places 0 1
progress_none h used margin cap wanted lists hs ns xs places =
    record {
      bs = [];
      many = refl;
      fits = omega arith;
      decoded = record { next_low = λ i l. absurd (omega arith); join_low = λ i l. absurd (omega arith); is = λ i l. absurd (omega arith) };
      total = refl;
      filled = λ j a b c. absurd (omega arith);
    }

-- a record whose list is not wanted
pub progress_past : {h : ℕ → History} {used : ℕ} {margin : Float} {cap : ℕ} {wanted : ℕ → Bool} {lists hs ns : List ℕ} {xs : List Float} {places r next : ℕ} → Progress h used margin cap wanted lists hs ns xs places r next
    → wanted (suc r) ≡ false → Progress h used margin cap wanted lists hs ns xs places (suc r) next
progress_past {h} {used} {margin} {cap} {wanted} {lists} {hs} {ns} {xs} {places} {r} {next} g e =
    record {
      bs = g.bs;
      many = g.many;
      fits = g.fits;
      decoded = g.decoded;
      total = g.total ∙ sym (sum_next wanted f r ∙ ap (λ (c : Bool). sum_to wanted f r + cond c (f (suc r)) 0) e ∙ (let q : sum_to wanted f r + 0 ≡ sum_to wanted f r = omega arith in q));
      filled = λ j a b c. case (lt_or_le r j) (λ l. let q : j ≡ suc r = omega arith in never (sym e ∙ ap wanted (sym q) ∙ c)) (λ l. g.filled j a l c);
    }
  where
    f : ℕ → ℕ
    f j = length (below_of margin cap (h j))

module _ {rs : List ℕ} {ls : List ℤ} {gs : List Float} {used : ℕ} {h : ℕ → History} (ok : Stands (store rs ls gs) used h) (margin : Float) (cap : ℕ) (links : List ℕ) (low : (l : ℕ) → l ∈ links → l ≤ used) where
  module _ (wanted : ℕ → Bool) (wanted-is : (j : ℕ) → 0 < j → j ≤ used → wanted j ≡ true → IsVisited margin cap h links j) (wanted_all : (j : ℕ) → 0 < j → j ≤ used → IsVisited margin cap h links j → wanted j ≡ true) where
    abbrev size_of : ℕ → ℕ
    size_of j = length (below_of margin cap (h j))

    -- how many entries there are in all
    total_is : sum_to wanted size_of used ≡ entries_below margin cap (map h links)
    total_is =
        entries_are ok margin cap links low (passing wanted used) (passing_once wanted used)
        (λ j m. let z = passing_low wanted used j m in (z.0, z.1, wanted-is j z.0 z.1 (keep_passes wanted (range 1 used) j m)))
        (λ j a u m. keep_to wanted (range 1 used) j (range_in 1 used j a (omega arith)) (wanted_all j a u m))

    -- all records are done
    pub progress_all : {lists hs ns : List ℕ} {xs : List Float} {places next : ℕ} → Progress h used margin cap wanted lists hs ns xs places used next → Outcome h used margin cap links lists hs ns xs places (Some next)
    progress_all {lists} {hs} {ns} {xs} {places} {next} g =
        subst (λ (k : ℕ). Outcome h used margin cap links lists hs ns xs places (Some k)) (sym g.many)
        (was_filled (length g.bs) (g.total ∙ total_is) (let y = g.many in let z = g.fits in omega arith)
        (record {
          bs = g.bs;
          many = refl;
          decoded = g.decoded;
          lists_are = λ l m e u t. case (lt_or_le 0 e) (λ a. (g.filled e a u (wanted_all e a u (visited_root ok margin cap links low l e m a u t))).is)
              (λ a. let q : e ≡ 0 = omega arith in subst (λ (k : ℕ). list_at lists g.bs k ≡ below_of margin cap (h k)) (sym q) (filled_start h margin cap lists g.bs ok.none).is);
        }))

    module _ {lists hs ns : List ℕ} {xs : List Float} {places r next : ℕ} (g : Progress h used margin cap wanted lists hs ns xs places r next) (few : suc r ≤ used) (want : wanted (suc r) ≡ true) {own kept : Way}
        (W : OwnWay rs ls used lists (suc r) own) (K : KeptWay rs ls gs used lists (suc r) margin kept) where
      abbrev here_visited : IsVisited margin cap h links (suc r)
      here_visited = wanted-is (suc r) (omega arith) few want

      -- the record is a join
      pub is_join : is_join_at rs ls (suc r - 1) ≡ true
      is_join = visited_join ok margin cap links low (suc r) (omega arith) few here_visited

      -- the lists that its two ways lead to are filled
      pub own_filled : Filled h margin cap lists g.bs W.end
      own_filled =
          let x = prev_below ok (suc r) (omega arith) few in
          let y = W.end_is.low in
          case (lt_or_le 0 W.end)
          (λ a. g.filled W.end a (omega arith) (wanted_all W.end a (omega arith) (visited_own ok margin cap links low (suc r) (omega arith) few here_visited W.end a (omega arith) (W.end_is.is gs h ok))))
          (λ a. let q : W.end ≡ 0 = omega arith in subst (Filled h margin cap lists g.bs) (sym q) (filled_start h margin cap lists g.bs ok.none))

      pub kept_filled : T (cost_at gs (suc r - 1) ≼ margin) → Filled h margin cap lists g.bs K.end
      kept_filled t =
          let x = kept_below_lem ok (suc r) (omega arith) few in
          let y = K.end_is.low in
          case (lt_or_le 0 K.end)
          (λ a. g.filled K.end a (omega arith) (wanted_all K.end a (omega arith) (visited_kept ok margin cap links low (suc r) (omega arith) few here_visited (is_true t) K.end a (omega arith) (K.end_is.is gs h ok))))
          (λ a. let q : K.end ≡ 0 = omega arith in subst (Filled h margin cap lists g.bs) (sym q) (filled_start h margin cap lists g.bs ok.none))

      abbrev es : List Entry
      es = list_of margin cap (way_entries hs ns xs own) (way_entries hs ns xs kept)

      stands_new : map (as_below h g.bs) es ≡ below_of margin cap (h (suc r))
      stands_new = list_is ok g.decoded margin cap lists (suc r) (omega arith) few own kept W K own_filled kept_filled is_join

      many_new : length es ≡ size_of (suc r)
      many_new = sym (length-map es (as_below h g.bs)) ∙ ap length stands_new

      total_new : length g.bs + length es ≡ sum_to wanted size_of (suc r)
      total_new =
          let x = g.total in
          let y = many_new in
          let z = sum_next wanted size_of r ∙ ap (λ (c : Bool). sum_to wanted size_of r + cond c (size_of (suc r)) 0) want in
          omega arith

      next_low : (e : Entry) → e ∈ es → e.next ≤ length g.bs
      next_low e m =
          case (list_from margin cap (way_entries hs ns xs own) (way_entries hs ns xs kept) e m)
          (λ i. let z = (way_from hs ns xs own e i).1 in let x = own_filled.low in let y = W.first in let w = W.count in omega arith)
          (λ i. by_kept (way_from hs ns xs kept e i).0 (way_from hs ns xs kept e i).1 (cost_at gs (suc r - 1) ≼ margin) refl K.count)
        where
          by_kept : kept.first ≤ e.next → e.next < kept.first + kept.count → (c : Bool) → (cost_at gs (suc r - 1) ≼ margin) ≡ c → kept.count ≡ cond c (count_at lists K.end) 0 → e.next ≤ length g.bs
          by_kept a b true t q = let x = (kept_filled (holds t)).low in let y = K.first in omega arith
          by_kept a b false t q = absurd (omega arith)

      join_low : (e : Entry) → e ∈ es → e.join ≤ used
      join_low e m =
          case (list_from margin cap (way_entries hs ns xs own) (way_entries hs ns xs kept) e m)
          (λ i. let z = (way_from hs ns xs own e i).2 in let y = W.join in omega arith)
          (λ i. let z = (way_from hs ns xs kept e i).2 in let y = K.join in omega arith)

      -- what filling the list left
      module _ (small : T (margin ≺ huge)) {hs' ns' : List ℕ} {xs' : List Float} {n : Option ℕ} (F : FillIs hs ns xs hs' ns' xs' own kept margin cap next places n) where
        fill_is : ((n ≡ None) × (places + 1 < next + length es)) ⊎ ((n ≡ Some (next + length es)) × (entries hs' ns' xs' next (length es) ≡ es))
        fill_is =
            F.is (own_rises ok g.decoded margin cap lists (suc r) (omega arith) few own kept W K own_filled kept_filled is_join small)
            (kept_rises ok g.decoded margin cap lists (suc r) (omega arith) few own kept W K own_filled kept_filled is_join small)

        -- no new entry has more words than the join's number
        pub new_short : (to : ℕ) → n ≡ Some to → (e : ℕ) → next ≤ e → e < to → (entry_at hs' ns' xs' e).len ≤ suc r
        new_short to d e l u = case fill_is (λ q. absurd (none-some to (sym q.0 ∙ d))) (λ q. short (same_Some to (next + length es) (sym d ∙ q.0)) q.1)
          where
            f : Entry → Below
            f = as_below h g.bs

            short : to ≡ next + length es → entries hs' ns' xs' next (length es) ≡ es → (entry_at hs' ns' xs' e).len ≤ suc r
            short q new =
                let k = e - next in
                let b = get_or es k no_entry in
                let i : k < length es = omega arith in
                let p : next + k ≡ e = omega arith in
                let a : entry_at hs' ns' xs' e ≡ b = ap (entry_at hs' ns' xs') (sym p) ∙ sym (range_at (entry_at hs' ns' xs') next (length es) k no_entry i) ∙ ap (λ (l : List Entry). get_or l k no_entry) new in
                let m : f b ∈ below_of margin cap (h (suc r)) = subst (λ (l : List Below). f b ∈ l) stands_new (map_to f es b (at_member es k no_entry i)) in
                subst (λ (x : Entry). x.len ≤ suc r) (sym a) (below_len ok margin cap (suc r) few (f b) m)

        -- its list has no place: then there are too few places
        pub progress_full : n ≡ None → places < entries_below margin cap (map h links)
        progress_full e =
            let t = total_new in
            let m = g.many in
            let u = sum_upto wanted size_of (suc r) used few in
            let v = total_is in
            case fill_is (λ q. let z = q.1 in omega arith) (λ q. absurd (none-some (next + length es) (sym e ∙ q.0)))

        old_entries : (i : ℕ) → i < length g.bs → entry_in hs' ns' xs' i ≡ entry_in hs ns xs i
        unfolding entry_at
        old_entries i l = F.before (suc i) (let m = g.many in omega arith)

        -- it has its place, and the list's two numbers are put
        pub progress_put : (to : ℕ) → n ≡ Some to → to ≤ places + 1 → (lists' : List ℕ) → ((j : ℕ) → j ≤ r → first_at lists' j ≡ first_at lists j) → ((j : ℕ) → j ≤ r → count_at lists' j ≡ count_at lists j)
            → first_at lists' (suc r) ≡ next → count_at lists' (suc r) ≡ to - next → Progress h used margin cap wanted lists' hs' ns' xs' places (suc r) to
        progress_put to d fits lists' firsts_same Counts-same first count = case fill_is (λ q. absurd (none-some to (sym q.0 ∙ d))) (λ q. put (same_Some to (next + length es) (sym d ∙ q.0)) q.1)
          where
            cs : List Below
            cs = map (as_below h g.bs) es

            cs_many : length cs ≡ length es
            cs_many = length-map es (as_below h g.bs)

            put : to ≡ next + length es → entries hs' ns' xs' next (length es) ≡ es → Progress h used margin cap wanted lists' hs' ns' xs' places (suc r) to
            put e new =
                record {
                  bs = g.bs ++ cs;
                  many = let a = length-append g.bs cs in let b = cs_many in let m = g.many in omega arith;
                  fits = fits;
                  decoded = decoded_more g.decoded hs' ns' xs' es old_entries (subst (λ (k : ℕ). entries hs' ns' xs' k (length es) ≡ es) g.many new) next_low join_low;
                  total = let a = length-append g.bs cs in let b = cs_many in let t = total_new in omega arith;
                  filled = λ j a b c. case (lt_or_le r j)
                      (λ l.
                      let i : j ≡ suc r = omega arith in
                      subst (Filled h margin cap lists' (g.bs ++ cs)) (sym i)
                      (filled_new h margin cap lists' g.bs cs (suc r) (first ∙ g.many) (let x = cs_many in let y = count in omega arith) stands_new))
                      (λ l. filled_more h margin cap lists' g.bs cs j (filled_same h margin cap lists lists' g.bs j (firsts_same j l) (Counts-same j l) (g.filled j a l c)));
                }
