-- What was found, for a situation: the definition's heads, entries that stand for paths below them, and its kept readings. Assumes nothing.
use Rattle.std.specs.Prelude.{◌≡◌, refl, ℕ, suc, ◌+◌, ◌*◌, ◌≤◌, ◌<◌, Bool, true, not, List, [], map, ℤ, T, length, take, Float, Option, Some, None}
use Rattle.std.proofs.Common.{sym, ap, ◌∙◌, subst, arith}
use Rattle.std.specs.Float.Ieee.{is_nan}
use Rattle.lists.specs.Tests.{case}
use Rattle.lists.specs.Lists.{◌∈◌, keep_if, range}
use Rattle.lists.specs.Members.{map_to}
use Rattle.lists.specs.Order.{Perm, perm_member}
use Rattle.real32.specs.Order.{real_is}
use Rattle.model.specs.Hash.{hash_words}
use Rattle.model.specs.Reads.{Ranked, ranked, use_finals}
use Rattle.model.specs.Readings.{Below, heads, Kept, kept_below, kept_map, kept_group}
use Rattle.copy_laws.proofs.Ranks.{ranked_at_lem}
use Rattle.copy_laws.proofs.Listed.{kept_by_lem}
use Rattle.records.specs.History.{History}
use Rattle.records.specs.Layout.{store}
use Rattle.records.specs.Stands.{Stands}
use Rattle.groups.specs.Places.{range_to}
use Rattle.groups.specs.Firsts.{link_at}
use Rattle.ranking.specs.Ranked.{RankedIs}
use Rattle.below.specs.Stored.{stands_for, Decoded}
use Rattle.below.specs.Marks.{link_of, head_links}
use Rattle.below.specs.Filling.{entries_below, Listed, Outcome, was_filled, BelowIs}
use Rattle.below.specs.Short.{Short}
use Rattle.kept_readings.specs.declared.KeptReading.{KeptReading}
use Rattle.kept_readings.specs.Kept.{kept_read_in as kept_place, kept_list}
use Rattle.kept_readings.specs.Meaning.{as_kept, kept_within, Head, ListsInside}
use Rattle.kept_readings.specs.Whole.{Orderly, map_held, map_more}
use Rattle.kept_order.specs.Before.{kept_is_before, words_back}
use Rattle.kept_order.specs.Asks.{OrderIs}
use Rattle.listing_laws.specs.Situation.{Situation, Held}
use Rattle.listing_laws.specs.Owns.{rank_in, link_in}
use Rattle.listing_laws.specs.Heads.{head_in, heads_right}
use Rattle.listing_laws.specs.Known.{kept_key, kept_read_in, Known, kept_not_own, kept_has_rank}
use Rattle.listing_laws.specs.Knows.{numbered, route_few, met_orderly, known}
use Rattle.listing_laws.specs.Members.{KeptHeld, kept_held}
use Rattle.listing_laws.specs.Words.{kept_hash, kept_len}
use Rattle.listing_laws.specs.Sorted.{Met}
use Rattle.listing.specs.Listed.{HeadsListed, Found}
use Rattle.listing.specs.Counting.{counts_as}
use Rattle.listing.specs.Finding.{head_ranked, head_held}

-- the entries that were put, and the lists that they stand in
pub record Filled (h : ℕ → History) (used : ℕ) (margin : Float) (cap : ℕ) (links lists hs ns : List ℕ) (xs : List Float) (entries free : ℕ) : Type 0 where
  pub k : ℕ
  pub next : free ≡ suc k
  pub is : k ≡ entries_below margin cap (map h links)
  pub few : k ≤ entries
  pub listed : Listed h used margin cap links lists hs ns xs k
  pub inside : ListsInside h used links lists k

filled : {rs : List ℕ} {ls : List ℤ} {gs : List Float} {used : ℕ} {margin : Float} {cap : ℕ} {links lists hs ns : List ℕ} {xs : List Float} {entries free : ℕ} (h : ℕ → History) → Stands (store rs ls gs) used h
    → BelowIs rs ls gs used margin cap links lists hs ns xs entries (Some free) → Filled h used margin cap links lists hs ns xs entries free
filled {used = used} {margin} {cap} {links} {lists} {hs} {ns} {xs} {entries} h ok B = go (B.is h ok) B.short
  where
    go : {free : ℕ} → Outcome h used margin cap links lists hs ns xs entries (Some free) → Short lists hs ns xs used free → Filled h used margin cap links lists hs ns xs entries free
    go (was_filled k e u L) s = record { k = k; next = refl; is = e; few = u; listed = L; inside = λ l i j v q. let z = s.before j v in omega arith }

-- a kept reading as it can be read: an active state, an entry that was put, a rank that is a number, hash and number of its words
pub record KeptSound (tk rs : List ℕ) (ls : List ℤ) (b n used : ℕ) (ns : List ℕ) (bs : List Below) (k : KeptReading) : Type 0 where
  pub held : Held tk b n k.state
  pub entry : k.entry ≤ length bs
  pub route : length (stands_for bs k.entry).route ≤ used
  pub known : T (not (is_nan k.rank))
  pub hash : k.hash ≡ hash_words (words_back tk rs ls b ns k)
  pub len : k.len ≡ length (words_back tk rs ls b ns k)

-- ---- the heads

module _ {tk : List ℕ} {sm fs : List Float} {rs : List ℕ} {ls : List ℤ} {gs : List Float} {n b used : ℕ} {margin : Float} (S : Situation tk sm fs rs ls gs n b used true margin) {counts : Bool} (f : Bool) (c : counts ≡ use_finals S.g S.st f)
    {order : List ℕ} {all : ℕ} (R : RankedIs tk sm fs b n counts order all) {bound : Float} {heads' : List ℕ} {m : ℕ} (H : HeadsListed tk sm fs rs ls b used counts bound order heads' all m) where
  head_counts : (s : ℕ) → s ∈ take m heads' → Head S.g tk b n counts S.st.table s
  head_counts s i = head_in S counts f c R s (head_ranked S H s i)

  -- they are the definition's
  pub heads_are : heads counts bound (ranked S.g S.st f) ≡ map (rank_in S counts) (take m heads')
  heads_are = heads_right S counts f c R (numbered S counts) bound H.firsts H.are

  -- and so is the map of what they keep
  map_of : (cap : ℕ) → kept_map counts margin bound cap (map (rank_in S counts) (take m heads')) ≡ kept_read_in S.g S.st f margin bound cap
  map_of cap = ap (kept_map counts margin bound cap) (sym heads_are) ∙ ap (λ (x : Bool). kept_map x margin bound cap (heads x bound (ranked S.g S.st f))) c

  -- what is met for it has ranks, and no two of one key are level
  in_order : used ≤ 1_048_576 → (cap : ℕ) → 0 < cap → Orderly (keep_if (kept_within bound) (kept_below counts margin cap (map (rank_in S counts) (take m heads'))))
  in_order few_records cap some-cap =
      subst (λ (l : List Ranked). Orderly (keep_if (kept_within bound) (kept_below counts margin cap l))) heads_are
      (subst (λ (x : Bool). Orderly (keep_if (kept_within bound) (kept_below x margin cap (heads x bound (ranked S.g S.st f))))) (sym c) (met_orderly S S.margin_is few_records f bound cap some-cap))

-- ---- what was found

module _ {tk : List ℕ} {sm fs : List Float} {rs : List ℕ} {ls : List ℤ} {gs : List Float} {n b used : ℕ} {margin : Float} (S : Situation tk sm fs rs ls gs n b used true margin) {counts : Bool} {listed : ℕ} {bound : Float} {order : List ℕ} {all : ℕ}
    {hs ns : List ℕ} {xs : List Float} {entries : ℕ} {khs kns : List ℕ} {kxs : List Float} {most : ℕ} {found : Option ℕ} (F : Found tk sm fs rs ls gs b used margin counts listed bound order all hs ns xs entries khs kns kxs most found) where
  abbrev cap : ℕ
  cap = listed + 1

  -- the states of the heads
  abbrev head_states : List ℕ
  head_states = take F.m F.heads'

  -- the entries
  pub put : Filled S.h used margin cap (head_links tk b F.heads' F.m) F.lists hs ns xs entries F.free
  put = filled S.h S.stands F.below

  abbrev pub belows : List Below
  belows = put.listed.bs

  -- they stand for paths
  pub decoded : Decoded S.h used hs ns xs belows
  decoded = put.listed.decoded

  -- and have their places
  pub belows_few : entries * 3 ≤ length ns → length belows * 3 ≤ length ns
  belows_few l = let a = put.few in let z = put.listed.many in omega arith

  short : Short F.lists hs ns xs used F.free
  short = F.below.short

  abbrev stand : KeptReading → Kept
  stand k = as_kept (rank_in S counts) belows k

  module _ (few_records : used ≤ 1_048_576) (R : RankedIs tk sm fs b n counts order all) where
    held-head : (s : ℕ) → s ∈ head_states → Held tk b n s
    held-head = head_held S R F.are

    module _ (f : Bool) (c : counts ≡ use_finals S.g S.st f) where
      tokens : (s : ℕ) → s ∈ head_states → Head S.g tk b n counts S.st.table s × (link_at tk b s ∈ head_links tk b F.heads' F.m)
      tokens s i = (head_counts S f c R F.are s i, map_to (link_of tk b) head_states s i)

      all_orderly : Orderly (keep_if (kept_within bound) (kept_below counts margin cap (map (rank_in S counts) head_states)))
      all_orderly = in_order S f c R F.are few_records cap (omega arith)

      -- ranks, and routes that take some kept path
      pub found_known : Known S.g S.heard S.st f margin bound cap
      found_known = known S S.margin_is few_records f bound cap (omega arith)

      -- where there are more kept readings than places, the definition's map has more
      pub map_over : found ≡ None → most < length (kept_read_in S.g S.st f margin bound cap)
      map_over l =
          subst (λ (ks : List Kept). most < length ks) (map_of S f c R F.are cap) (map_more gs S.h S.stands put.listed put.inside S.shown S.g S.finals S.long counts bound F.fill tokens all_orderly l)

      -- else the places hold the definition's map
      module _ {r : ℕ} (all-found : found ≡ Some r) where
        -- in some order
        pub map_is : Perm (map stand (kept_list khs kns kxs r)) (kept_read_in S.g S.st f margin bound cap)
        map_is =
            subst (Perm (map stand (kept_list khs kns kxs r))) (map_of S f c R F.are cap) (map_held gs S.h S.stands put.listed put.inside S.shown S.g S.finals S.long counts bound F.fill tokens all_orderly all-found)

        in_map : (k : KeptReading) → k ∈ kept_list khs kns kxs r → stand k ∈ kept_read_in S.g S.st f margin bound cap
        in_map k m = perm_member map_is (stand k) (map_to stand (kept_list khs kns kxs r) k m)

        held : (k : KeptReading) → k ∈ kept_list khs kns kxs r → KeptHeld S counts head_states F.free k
        held k m = kept_held S counts short bound F.fill (λ s i. ((tokens s i).0, (link_in S counts s (held-head s i)).low)) all-found k m

        -- as the order of the list asks it
        pub all_met : (ord : List ℕ) (O : OrderIs (kept_is_before tk rs ls b ns khs kns kxs) r ord) → Met S counts decoded khs kns kxs r ord O head_states F.free
        all_met ord O =
            record {
              held = held;
              active = held-head;
              many = put.next ∙ ap suc (sym put.listed.many);
              foreign = λ k m. kept_not_own found_known (kept_group (stand k)) (map_to kept_group (kept_read_in S.g S.st f margin bound cap) (stand k) (in_map k m));
            }

        counted_sound : (k : KeptReading) → k ∈ kept_list khs kns kxs r → KeptSound tk rs ls b n used ns belows k
        counted_sound k m =
            let x = held k m in
            let active = held-head k.state x.state_in in
            let low : k.entry ≤ length belows = let z = x.entry_low in let y = put.next in let w = put.listed.many in omega arith in
            let d = kept_by_lem S.g S.st f margin bound cap (stand k) (in_map k m) in
            let a = ranked_at_lem S.g S.st f d.head d.among in
            let falls = (S.standing.active.sound a.state d.head.token a.at).falls in
            record {
              held = active;
              entry = low;
              route =
                  let z = route_few S S.margin_is few_records f bound cap (omega arith) d.head d.among d.way d.below in
                  let y = ap (λ (w : Below). length w.route) (kept_key d) in
                  omega arith;
              known = subst T (real_is k.rank) (kept_has_rank found_known (stand k) (in_map k m));
              hash = kept_hash S counts decoded k active low (use_finals S.g S.st f) cap d.head d.way d.is d.below S.st.fresh falls;
              len = kept_len S counts decoded k active low (use_finals S.g S.st f) cap d.head d.way d.is d.below S.st.fresh falls;
            }

    -- whether finals count or not
    module _ {r : ℕ} (all-found : found ≡ Some r) where
      all_sound : (k : KeptReading) → k ∈ kept_list khs kns kxs r → KeptSound tk rs ls b n used ns belows k
      all_sound k m =
          case (counts_as S counts R) (λ e. counted_sound e.0 e.1 all-found k m)
          (λ e. absurd (no-head e k.state (kept_held S counts short bound F.fill (λ s i. absurd (no-head e s i)) all-found k m).state_in))
        where
          no-head : take all order ≡ [] → (s : ℕ) → s ∈ head_states → ⊥
          no-head e s i = elim (subst (λ (l : List ℕ). s ∈ l) e (head_ranked S F.are s i)) [ ]

      -- kept reading number i
      pub sound_at : (i : ℕ) → i < r → KeptSound tk rs ls b n used ns belows (kept_place khs kns kxs i)
      sound_at i l = all_sound (kept_place khs kns kxs i) (map_to (kept_place khs kns kxs) (range 0 r) i (range_to 0 r i (omega arith) (omega arith)))
