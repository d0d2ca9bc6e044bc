-- What the steps of the list ask, and what they leave together. Assumes nothing.
use Rattle.std.specs.Prelude.{◌≡◌, refl, ℕ, ◌+◌, ◌≤◌, ◌<◌, Bool, true, false, ◌&&◌, List, ℤ, ltb, get_or, Float, Some, Result, Ok, Err}
use Rattle.std.proofs.Common.{sym, subst, arith, ltb-true}
use Rattle.lists.specs.Tests.{and_both, never}
use Rattle.entries.specs.Entries.{Room as EntryRoom}
use Rattle.kept_readings.specs.Kept.{Room}
use Rattle.kept_readings.specs.Laws.{added_fits}
use Rattle.listing.specs.declared.Ranked.{Ranked}
use Rattle.listing.specs.Listed.{StoresAsk, bound_of, BoundAsks, OwnListed, Found, FoundIs, entries_full, map_full, are_found, Slices, WithAsks, WithIs, overfull, ListingIs, is_full, are_items}
use Rattle.listing.specs.Owning.{few_own, at_held}
use Rattle.listing.specs.Finding.{own_asks}
use Rattle.listing.specs.Counts.{found_fits, found_full}
use Rattle.listing.specs.Listing.{list_right}
use Rattle.refusals.specs.declared.Reason.{Reason}
use Rattle.refusals.specs.declared.Reason.TheVariants.{ListsFull}

module _ {tk : List ℕ} {sm fs : List Float} {rs : List ℕ} {ls : List ℤ} {gs : List Float} {n b used : ℕ} {keeps : Bool} {margin : Float} (A : StoresAsk tk sm fs rs ls gs n b used keeps margin) (listed : ℕ) (listing : (keeps && ltb 0 listed) ≡ true) where
  begins : 0 < listed
  begins = ltb-true 0 listed (and_both keeps (ltb 0 listed) listing).1

  -- where kept readings are listed, merges were kept
  pub stores_kept : StoresAsk tk sm fs rs ls gs n b used true margin
  stores_kept = subst (λ (k : Bool). StoresAsk tk sm fs rs ls gs n b used k margin) (and_both keeps (ltb 0 listed) listing).0 A

  -- for the bound
  pub bound_asks : {counts : Bool} {heads own : List ℕ} {o : Ranked} → OwnListed tk sm fs rs ls b n used counts heads own o → BoundAsks tk sm fs b own o.own listed
  bound_asks {counts} {own = own} O =
      record {
        side = A.side;
        begins = begins;
        room = O.room;
        each = λ i l. own_asks A (get_or own i 0) (at_held A.situation counts O.ranked O.copied O.firsts O.room i l);
      }

-- how many were found
found_of_lem : {tk : List ℕ} {sm fs : List Float} {rs : List ℕ} {ls : List ℤ} {gs : List Float} {b used : ℕ} {margin : Float} {counts : Bool} {listed : ℕ} {bound : Float} {heads : List ℕ} {all : ℕ} {hs ns : List ℕ} {xs : List Float} {entries : ℕ} {khs kns : List ℕ} {kxs : List Float} {most r : ℕ}
    → FoundIs tk sm fs rs ls gs b used margin counts listed bound heads all hs ns xs entries khs kns kxs most (Ok r) → Found tk sm fs rs ls gs b used margin counts listed bound heads all hs ns xs entries khs kns kxs most (Some r)
found_of_lem (are_found r F) = F

-- it is refused for one reason
reason_of : {tk : List ℕ} {sm fs : List Float} {rs : List ℕ} {ls : List ℤ} {gs : List Float} {b used : ℕ} {margin : Float} {counts : Bool} {listed : ℕ} {bound : Float} {heads : List ℕ} {all : ℕ} {hs ns : List ℕ} {xs : List Float} {entries : ℕ} {khs kns : List ℕ} {kxs : List Float} {most : ℕ} {e : Reason}
    → FoundIs tk sm fs rs ls gs b used margin counts listed bound heads all hs ns xs entries khs kns kxs most (Err e) → e ≡ ListsFull
reason_of (entries_full heads' m H lists B) = refl
reason_of (map_full F) = refl

module _ {tk : List ℕ} {sm fs : List Float} {rs : List ℕ} {ls : List ℤ} {gs : List Float} {n b used : ℕ} {margin : Float} {counts : Bool} {heads own : List ℕ} {o : Ranked} (O : OwnListed tk sm fs rs ls b n used counts heads own o) {listed : ℕ} {bound : Float} (at_bound : bound ≡ bound_of tk sm fs b counts own o.own listed)
    {hs ns : List ℕ} {xs : List Float} {entries : ℕ} {khs kns : List ℕ} {kxs : List Float} {most : ℕ} where
  -- by the bound that was computed
  found_as : {res : Result ℕ Reason} → FoundIs tk sm fs rs ls gs b used margin counts listed bound heads o.all hs ns xs entries khs kns kxs most res → FoundIs tk sm fs rs ls gs b used margin counts listed (bound_of tk sm fs b counts own o.own listed) heads o.all hs ns xs entries khs kns kxs most res
  found_as {res} F = subst (λ (y : Float). FoundIs tk sm fs rs ls gs b used margin counts listed y heads o.all hs ns xs entries khs kns kxs most res) at_bound F

  -- a store is full
  pub is_full_lem : {x : Reason} → FoundIs tk sm fs rs ls gs b used margin counts listed bound heads o.all hs ns xs entries khs kns kxs most (Err x) → (keeps : Bool) (A : StoresAsk tk sm fs rs ls gs n b used keeps margin) → (keeps && ltb 0 listed) ≡ true → {kept : ℕ} → most ≡ kept → {list : List ℕ}
      → ListingIs tk sm fs rs ls gs n b used keeps margin counts listed entries kept hs ns xs khs kns kxs list (Err x)
  is_full_lem F true A l {kept} e {list} =
      subst (λ (y : Reason). ListingIs tk sm fs rs ls gs n b used true margin counts listed entries kept hs ns xs khs kns kxs list (Err y)) (sym (reason_of F))
      (is_full (λ S use_final c. subst (λ (k : ℕ). overfull S use_final listed entries k ≡ true) e (found_full S A.few_records counts use_final c O listed (begins A listed l) (found_as F))))
  is_full_lem F false A l e = never l

  module _ {r : ℕ} (F : FoundIs tk sm fs rs ls gs b used margin counts listed bound heads o.all hs ns xs entries khs kns kxs most (Ok r)) where
    found_of : Found tk sm fs rs ls gs b used margin counts listed (bound_of tk sm fs b counts own o.own listed) heads o.all hs ns xs entries khs kns kxs most (Some r)
    found_of = found_of_lem (found_as F)

    fits : r ≤ most
    fits = added_fits found_of.fill.added

    -- both are put together
    pub with_asks : {keeps : Bool} (A : StoresAsk tk sm fs rs ls gs n b used keeps margin) → (keeps && ltb 0 listed) ≡ true → listed ≤ 64 → EntryRoom hs ns xs entries → most ≤ 0x7fff_fff0 → Room khs kns kxs most → {z : Slices}
        → (n ≤ z.keys) × (most ≤ z.keys) → n ≤ z.places → n ≤ z.gone → most ≤ z.order → used ≤ z.first_route → used ≤ z.second_route → n + most ≤ z.list → WithAsks tk sm fs rs ls n b used counts own o.own ns khs kns kxs r z
    with_asks A l few E m K keys places gone order first second list =
        record {
          gs = gs;
          margin = margin;
          stores = stores_kept A listed l;
          ranked = o;
          own_are = refl;
          heads = heads;
          own_listed = O;
          listed = listed;
          begins = begins A listed l;
          listed_few = few;
          hs = hs;
          xs = xs;
          entries = entries;
          nexts = E.nexts;
          most = most;
          found = found_of;
          few = fits;
          most_few = m;
          room = K;
          keys_long = keys;
          places_long = places;
          gone_long = gone;
          order_long = order;
          first_long = first;
          second_long = second;
          list_long = list;
        }

    -- and are the list
    pub are_items_lem : (keeps : Bool) (A : StoresAsk tk sm fs rs ls gs n b used keeps margin) → (keeps && ltb 0 listed) ≡ true → EntryRoom hs ns xs entries → Room khs kns kxs most → {kept : ℕ} → most ≡ kept
        → {list : List ℕ} {k : ℕ} → WithIs tk sm fs rs ls b counts own o.own ns khs kns kxs r list k → ListingIs tk sm fs rs ls gs n b used keeps margin counts listed entries kept hs ns xs khs kns kxs list (Ok k)
    are_items_lem true A l E K e {k = k} W =
        let y = fits in
        let g = begins A listed l in
        let m = few_own O in
        are_items k W.room (let w = W.few in omega arith)
        (λ S use_final c.
        (subst (λ (j : ℕ). overfull S use_final listed entries j ≡ false) e (found_fits S A.few_records counts use_final c O listed g found_of refl), list_right S A.few A.few_records counts use_final c O g found_of y E.nexts K W))
    are_items_lem false A l E K e W = never l
