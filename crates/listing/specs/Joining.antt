-- What the steps of putting both together ask, from what was found, and what they leave. Assumes nothing.
use Rattle.std.specs.Prelude.{◌≡◌, refl, ℕ, ◌+◌, ◌*◌, ◌≤◌, ◌<◌, Bool, true, false, List, [], ◌∷◌, ℤ, length, get_or, take, Float}
use Rattle.std.proofs.Common.{ap, ap₂, ◌∙◌, subst, arith}
use mathlib.Core.List.Memᴰ.{head as here}
use mathlib.Core.List.Memᴰ.{tail as there}
use Rattle.std.proofs.lemmas.List.{length-map}
use Rattle.lists.specs.Lists.{◌∈◌}
use Rattle.lists.specs.Members.{keep_from}
use Rattle.model.specs.Basics.{0f}
use Rattle.model.specs.Readings.{Below}
use Rattle.traceback.specs.Traced.{numbers_of}
use Rattle.groups.specs.Places.{range_from}
use Rattle.groups.specs.Firsts.{link_at, FirstsIs}
use Rattle.below.specs.Stored.{Decoded}
use Rattle.routes.specs.Entries.{joins_of}
use Rattle.routes.specs.Joins.{numbers_are}
use Rattle.kept_readings.specs.Kept.{kept_read_in, Room}
use Rattle.kept_order.specs.Before.{kept_is_before}
use Rattle.kept_order.specs.Asks.{OrderAsks, OrderIs}
use Rattle.merged.specs.Items.{kept_first, MergeAsks, ListMerged, merged_items}
use Rattle.merged.specs.Drops.{route_tells, KeptAsks}
use Rattle.merged.specs.Left.{kept_stands, own_stands, own_still_left}
use Rattle.listing_laws.specs.Situation.{Situation, Held}
use Rattle.listing_laws.specs.Alike.{at_front}
use Rattle.listing_laws.specs.Owns.{rank_in, link_in, own_held}
use Rattle.listing_laws.specs.Sorted.{in_order}
use Rattle.listing_laws.specs.Whole.{same_test}
use Rattle.listing.specs.declared.Counts.{Counts}
use Rattle.listing.specs.Listed.{Slices, WithAsks, WithIs}
use Rattle.listing.specs.Rooms.{room_less}
use Rattle.listing.specs.Settling.{SettleAsks, Settled}
use Rattle.listing.specs.Owning.{few_own, at_held, own_keyed, own_apart}
use Rattle.listing.specs.Finding.{chains_of, group_asks, own_asks}
use Rattle.listing.specs.Keeping.{KeptSound, belows, decoded, belows_few, sound_at}

-- what is left of the own groups is of them
pub left_from : (same first : ℕ → ℕ → Bool) (kept own : List ℕ) (s : ℕ) → s ∈ own_still_left same first kept own → s ∈ own
left_from same first kept [] s m = elim m [ ]
left_from same first kept (o ∷ own) s (here e) = here e
left_from same first kept (o ∷ own) s (there m) = there (keep_from (own_stands same first kept) own s m)

-- numbers in order are below n
pub order_low : {before : ℕ → ℕ → Bool} {n : ℕ} {order : List ℕ} → OrderIs before n order → (i : ℕ) → i ∈ take n order → i < n
order_low {n = n} O i m = let z = (range_from 0 n i (in_order O i m)).1 in omega arith

module _ {tk : List ℕ} {sm fs : List Float} {rs : List ℕ} {ls : List ℤ} {n b used : ℕ} {counts : Bool} {own : List ℕ} {m : ℕ} {ns khs kns : List ℕ} {kxs : List Float} {r : ℕ} {z : Slices} (W : WithAsks tk sm fs rs ls n b used counts own m ns khs kns kxs r z) where
  abbrev S : Situation tk sm fs rs ls W.gs n b used true W.margin
  S = W.stores.situation

  abbrev bs : List Below
  bs = belows S W.found

  D : Decoded S.h used W.hs ns W.xs bs
  D = decoded S W.found

  own_first_lem : FirstsIs tk rs ls b used false W.own_listed.before own W.ranked.all m
  own_first_lem = subst (FirstsIs tk rs ls b used false W.own_listed.before own W.ranked.all) W.own_are W.own_listed.firsts

  own_room : m ≤ length own
  own_room = let y = W.own_listed.room in let e = W.own_are in omega arith

  own_few : m ≤ n
  own_few = let y = few_own W.own_listed in let e = W.own_are in omega arith

  own_in : (s : ℕ) → s ∈ take m own → Held tk b n s
  own_in = own_held S counts W.own_listed.ranked W.own_listed.copied own_first_lem

  -- ---- kept reading number i

  room_to : (i : ℕ) → i < r → Room khs kns kxs (i + 1)
  room_to i l = let y = W.few in room_less W.room (omega arith)

  nexts_long : length bs * 3 ≤ length ns
  nexts_long = belows_few S W.found W.nexts

  sound : (i : ℕ) → i < r → KeptSound tk rs ls b n used ns bs (kept_read_in khs kns kxs i)
  sound = sound_at S W.found W.stores.few_records W.own_listed.ranked refl

  joins_few : (i : ℕ) → i < r → length (joins_of ns (kept_read_in khs kns kxs i).entry) ≤ used
  joins_few i l =
      let k = kept_read_in khs kns kxs i in
      let x = sound i l in
      let e = ap length (numbers_are D k.entry x.entry) in
      let q : length (numbers_of S.h (joins_of ns k.entry)) ≡ length (joins_of ns k.entry) = length-map (joins_of ns k.entry) _ in
      let y = x.route in
      omega arith

  -- for their order
  pub order_asks : {keys order : List ℕ} {p q : ℕ} → W.most ≤ length keys → W.most ≤ length order → used ≤ p → used ≤ q → OrderAsks tk rs ls b used ns khs kns kxs r keys order p q
  order_asks {p = p} {q} u v a c =
      let f = W.few in
      let x = W.most_few in
      record {
        all = record {
          store = record {
            side = W.stores.side;
            walks = W.stores.walkable;
            h = S.h;
            hs = W.hs;
            xs = W.xs;
            bs = bs;
            decoded = D;
            nexts = nexts_long;
          };
          room = room_less W.room f;
          few = omega arith;
          each = λ i l.
              let y = sound i l in
              let s = group_asks W.stores (kept_read_in khs kns kxs i).state y.held in
              let j = joins_few i l in
              record { known = y.known; inside = s.inside; low = s.low; entry = y.entry; len = y.len; first_room = omega arith; second_room = omega arith };
        };
        keys_long = omega arith;
        order_long = omega arith;
      }

  -- for the twins of one
  kept_asks : (i : ℕ) → i < r → (route : List ℕ) → used ≤ length route → KeptAsks tk rs ls b used ns khs kns kxs route i
  kept_asks i l route u =
      let k = kept_read_in khs kns kxs i in
      let y = sound i l in
      let s = group_asks W.stores k.state y.held in
      record {
        room = room_to i l;
        token = record { inside = s.inside; low = s.low };
        routed = record { h = S.h; used = used; hs = W.hs; xs = W.xs; bs = bs; decoded = D; low = y.entry; nexts = nexts_long; room = let x = y.route in omega arith };
        tells = route_tells S.stands (link_at tk b k.state) (rank_in S counts k.state).token.path (link_in S counts k.state y.held) 0f D y.entry;
        hash = y.hash;
      }

  -- ---- once they are in order

  module _ {order : List ℕ} (O : OrderIs (kept_is_before tk rs ls b ns khs kns kxs) r order) (order_long : W.most ≤ length order) where
    -- for the own groups that go, and the kept readings
    pub settle_asks : {keys places : ℕ} {gone route : List ℕ} → n ≤ keys → n ≤ places → n ≤ length gone → used ≤ length route → SettleAsks tk sm fs rs ls b used own m keys places gone ns khs kns kxs order r route
    settle_asks {route = route} a c d e =
        let few = own_few in
        let kept_few = W.few in
        let x = W.stores.few in
        let y = W.most_few in
        let held = at_held S counts W.own_listed.ranked W.own_listed.copied own_first_lem own_room in
        let low : (j : ℕ) → j < r → get_or order j 0 < r = λ j l. order_low O (get_or order j 0) (at_front order r j (omega arith) l) in
        record {
          states = record { side = W.stores.side; chains = chains_of W.stores; long = own_room; few = omega arith; each = λ p l. group_asks W.stores (get_or own p 0) (held p l) };
          walk = W.stores.walkable;
          ranks = λ p l. own_asks W.stores (get_or own p 0) (held p l);
          keyed = λ p l. own_keyed S counts (get_or own p 0) (held p l);
          apart = own_apart S counts W.own_listed.ranked W.own_listed.copied own_first_lem own_room;
          keys_long = omega arith;
          places_long = omega arith;
          gone_long = omega arith;
          order_long = omega arith;
          named = λ j l q. let w = low j l in omega arith;
          kepts = λ j l. kept_asks (get_or order j 0) (low j l) route e;
        }

    abbrev sames : ℕ → ℕ → Bool
    sames = same_test rs ls tk b ns khs kns kxs

    abbrev firsts : ℕ → ℕ → Bool
    firsts = kept_first tk sm fs b counts khs kns kxs

    module _ {own' order' : List ℕ} {left : Counts} (T : Settled (same_test rs ls tk b ns khs kns kxs) (kept_first tk sm fs b counts khs kns kxs) own own' m order order' r left) {list : List ℕ} (list_long : n + W.most ≤ length list) where
      -- for the merge of what is left
      pub merge_asks : length own' ≡ length own → length order' ≡ length order → MergeAsks tk sm fs b own' left.own khs kns kxs order' left.kept list
      merge_asks e q =
          let a = T.own_few in
          let c = T.kept_few in
          let d = own_few in
          let u = own_room in
          let v = W.few in
          let x = W.most_few in
          let low : (j : ℕ) → j < left.kept → get_or order' j 0 < r = λ j l.
          order_low O (get_or order' j 0)
          (keep_from (kept_stands sames firsts (take m own)) (take r order) (get_or order' j 0) (subst (λ (xs : List ℕ). get_or order' j 0 ∈ xs) T.kepts (at_front order' left.kept j (omega arith) l))) in
          record {
            side = W.stores.side;
            own_long = omega arith;
            order_long = omega arith;
            room = omega arith;
            owns = λ i l. own_asks W.stores (get_or own' i 0) (own_in (get_or own' i 0) (left_from sames firsts (take r order) (take m own) (get_or own' i 0) (subst (λ (xs : List ℕ). get_or own' i 0 ∈ xs) T.owns (at_front own' left.own i (omega arith) l))));
            kepts = λ j l. room_to (get_or order' j 0) (low j l);
            few = λ j l. let y = low j l in omega arith;
          }

      -- and what it leaves
      pub with_is : {k : ℕ} → ListMerged (kept_first tk sm fs b counts khs kns kxs) own' left.own order' left.kept list k → WithIs tk sm fs rs ls b counts own m ns khs kns kxs r list k
      with_is M =
          let a = T.own_few in
          let c = T.kept_few in
          let d = own_few in
          let v = W.few in
          let y = M.few in
          record { order = order; ordered = O; room = omega arith; few = omega arith; is = M.is ∙ ap₂ (merged_items firsts) T.owns T.kepts }
