-- What the heads among ranked states are asked for, and what the stores answer. Assumes nothing.
use Rattle.std.specs.Prelude.{◌≡◌, ℕ, ◌+◌, ◌*◌, ◌≤◌, ◌<◌, Bool, true, List, ℤ, length, get_or, take, Float, Option, Some, None, Result, Ok, Err, ok_or}
use Rattle.std.proofs.Common.{sym, ap, ◌∙◌, subst, arith, ne_eqb}
use Rattle.lists.specs.Lists.{◌∈◌}
use Rattle.lists.specs.Members.{keep_from, map_from}
use Rattle.records.specs.History.{History}
use Rattle.records.specs.Layout.{store}
use Rattle.records.specs.Stands.{Stands}
use Rattle.joins.specs.Walk.{Chains}
use Rattle.ranking.specs.Ranked.{RankAsks, RankedIs}
use Rattle.groups.specs.Firsts.{link_at, dropped, StateAsks as GroupAsks, StatesAsk, FirstsIs}
use Rattle.entries.specs.Entries.{Room as EntryRoom}
use Rattle.below.specs.Marks.{link_of, head_links, HeadsAsk as BelowHeadsAsk}
use Rattle.below.specs.Filling.{BelowAsks, BelowIs, Outcome, was_filled}
use Rattle.kept_readings.specs.Kept.{Room}
use Rattle.kept_readings.specs.Heads.{is_head, StateAsks, HeadsAsk, FillAsks, FillIs}
use Rattle.kept_readings.specs.Asks.{below_asks}
use Rattle.merged.specs.Items.{OwnAsks}
use Rattle.listing_laws.specs.Situation.{Situation, Held}
use Rattle.listing_laws.specs.Alike.{at_front}
use Rattle.listing_laws.specs.Owns.{firsts_among, link_in}
use Rattle.listing_laws.specs.Knows.{low}
use Rattle.listing.specs.Listed.{StoresAsk, HeadsListed, Found, FoundIs, entries_full, map_full, are_found}
use Rattle.refusals.specs.declared.Reason.{Reason}
use Rattle.refusals.specs.declared.Reason.TheVariants.{ListsFull}

-- states to begin from, whose tokens have records of a store that stands for some histories
pub record HeadsListAsks (tk : List ℕ) (sm fs : List Float) (rs : List ℕ) (ls : List ℤ) (b used : ℕ) (heads : List ℕ) (n keys places : ℕ) : Type 0 where
  pub gs : List Float
  pub h : ℕ → History
  pub stands : Stands (store rs ls gs) used h
  pub side : b ≤ 1
  pub chains : Chains rs ls used
  pub long : n ≤ length heads
  pub few : n < 4_294_967_296
  pub keys_long : n ≤ keys
  pub places_long : n ≤ places
  pub each : (s : ℕ) → s ∈ take n heads → StateAsks tk sm fs b used s
  pub named : (s : ℕ) → s ∈ take n heads → s < dropped

-- ---- the heads

-- as the grouping asks it
named_asks : {tk : List ℕ} {sm fs : List Float} {b used s : ℕ} → StateAsks tk sm fs b used s → s < dropped → GroupAsks tk b used s
named_asks {s = s} a l = record { inside = a.tokens; low = a.low; named = ne_eqb s dropped (λ q. omega arith) }

module _ {tk : List ℕ} {sm fs : List Float} {rs : List ℕ} {ls : List ℤ} {b used : ℕ} {heads : List ℕ} {n keys places : ℕ} (asks : HeadsListAsks tk sm fs rs ls b used heads n keys places) where
  -- for the grouping
  pub heads_states : StatesAsk tk rs ls b used heads n
  heads_states =
      record {
        side = asks.side;
        chains = asks.chains;
        long = asks.long;
        few = asks.few;
        each = λ i l. let k = at_front heads n i asks.long l in named_asks (asks.each (get_or heads i 0) k) (asks.named (get_or heads i 0) k);
      }

  -- for the test of each
  pub heads_ask : {heads' : List ℕ} {k : ℕ} → FirstsIs tk rs ls b used true heads heads' n k → length heads' ≡ length heads → HeadsAsk tk sm fs rs ls b used heads' k
  heads_ask {heads'} {k} F e =
      let long : k ≤ length heads' = let x = F.few in let y = asks.long in omega arith in
      record {
        side = asks.side;
        chains = asks.chains;
        long = long;
        each = λ i l. asks.each (get_or heads' i 0) (firsts_among asks.h asks.stands F (get_or heads' i 0) (at_front heads' k i long l));
      }

-- the heads are among the states that they are of
pub head_ranked : {tk : List ℕ} {sm fs : List Float} {rs : List ℕ} {ls : List ℤ} {gs : List Float} {n b used : ℕ} {keeps : Bool} {margin : Float} (S : Situation tk sm fs rs ls gs n b used keeps margin) {counts : Bool} {bound : Float} {heads heads' : List ℕ} {all m : ℕ}
    → HeadsListed tk sm fs rs ls b used counts bound heads heads' all m → (s : ℕ) → s ∈ take m heads' → s ∈ take all heads
head_ranked {tk} {sm} {fs} {gs = gs} {b = b} S {counts} {bound} H s i =
    let k = keep_from (is_head S.h tk sm fs b counts bound) (take H.k H.between) s (subst (λ (xs : List ℕ). s ∈ xs) (H.are.is gs S.h S.stands) i) in
    firsts_among S.h S.stands H.firsts s k

-- so they are active
pub head_held : {tk : List ℕ} {sm fs : List Float} {rs : List ℕ} {ls : List ℤ} {gs : List Float} {n b used : ℕ} {keeps : Bool} {margin : Float} (S : Situation tk sm fs rs ls gs n b used keeps margin) {counts : Bool} {heads : List ℕ} {all : ℕ} → RankedIs tk sm fs b n counts heads all
    → {bound : Float} {heads' : List ℕ} {m : ℕ} → HeadsListed tk sm fs rs ls b used counts bound heads heads' all m → (s : ℕ) → s ∈ take m heads' → Held tk b n s
head_held S R H s i = R.each s (head_ranked S H s i)

-- ---- the stores

module _ {tk : List ℕ} {sm fs : List Float} {rs : List ℕ} {ls : List ℤ} {gs : List Float} {n b used : ℕ} {keeps : Bool} {margin : Float} (A : StoresAsk tk sm fs rs ls gs n b used keeps margin) where
  -- the records can be walked back
  pub chains_of : Chains rs ls used
  chains_of = let w = A.walkable in record { records = w.records; labels = w.labels; prev_low = w.prev_low }

  -- for a state that is active
  state_asks : (s : ℕ) → Held tk b n s → StateAsks tk sm fs b used s
  state_asks s d =
      let i = d.0 in
      record {
        tokens = let z = A.tokens in omega arith;
        sums = let z = A.sums in omega arith;
        finals = let z = A.finals in omega arith;
        low = (link_in A.situation true s d).low;
      }

  pub group_asks : (s : ℕ) → Held tk b n s → GroupAsks tk b used s
  group_asks s d = named_asks (state_asks s d) (let x = d.0 in let y = A.few in omega arith)

  pub own_asks : (s : ℕ) → Held tk b n s → OwnAsks tk sm fs s
  own_asks s d = let a = state_asks s d in record { tokens = a.tokens; sums = a.sums; finals = a.finals }

  -- for the ranking
  pub rank_asks : (counts : Bool) {keys order : List ℕ} → n ≤ length keys → n ≤ length order → RankAsks tk sm fs b n counts keys order
  rank_asks counts k o = record { side = A.side; tokens = A.tokens; sums = A.sums; finals = A.finals; keys_long = k; order_long = o; known = A.known counts }

  module _ {counts : Bool} {heads : List ℕ} {all : ℕ} (R : RankedIs tk sm fs b n counts heads all) where
    -- the states that are ranked, also where they are copied
    pub states_ask : {own : List ℕ} → take all own ≡ take all heads → all ≤ length own → StatesAsk tk rs ls b used own all
    states_ask {own} e l =
        record {
          side = A.side;
          chains = chains_of;
          long = l;
          few = let x = R.few in let y = A.few in omega arith;
          each = λ i u. group_asks (get_or own i 0) (R.each (get_or own i 0) (subst (λ (xs : List ℕ). get_or own i 0 ∈ xs) e (at_front own all i l u)));
        }

    -- for the heads
    pub heads_list_asks : {keys places : ℕ} → n ≤ length heads → n ≤ keys → n ≤ places → HeadsListAsks tk sm fs rs ls b used heads all keys places
    heads_list_asks l k p =
        let S = A.situation in
        record {
          gs = gs;
          h = S.h;
          stands = S.stands;
          side = A.side;
          chains = chains_of;
          long = let x = R.few in omega arith;
          few = let x = R.few in let y = A.few in omega arith;
          keys_long = let x = R.few in omega arith;
          places_long = let x = R.few in omega arith;
          each = λ s m. state_asks s (R.each s m);
          named = λ s m. let x = (R.each s m).0 in let y = A.few in omega arith;
        }

    module _ {bound : Float} {heads' : List ℕ} {m : ℕ} (H : HeadsListed tk sm fs rs ls b used counts bound heads heads' all m) where
      heads_few : m ≤ n
      heads_few = let x = H.are.few in let y = H.firsts.few in let z = R.few in omega arith

      -- for the lists below them
      pub below_heads_ask : n ≤ length heads' → BelowHeadsAsk tk rs ls b used heads' m
      below_heads_ask l =
          let f = heads_few in
          let held : (i : ℕ) → i < m → Held tk b n (get_or heads' i 0) = λ i u. head_held A.situation R H (get_or heads' i 0) (at_front heads' m i (omega arith) u) in
          record {
            side = A.side;
            chains = chains_of;
            long = omega arith;
            inside = λ i u. (state_asks (get_or heads' i 0) (held i u)).tokens;
            low = λ i u. (state_asks (get_or heads' i 0) (held i u)).low;
          }

      -- for the map of what they keep
      pub fill_asks : n ≤ length heads' → {lists hs ns : List ℕ} {xs : List Float} {cap entries free : ℕ} → used * 2 ≤ length lists → EntryRoom hs ns xs entries → entries ≤ 0x7fff_fff0
          → BelowIs rs ls gs used margin cap (head_links tk b heads' m) lists hs ns xs entries (Some free) → {khs kns : List ℕ} {kxs : List Float} {most : ℕ} → Room khs kns kxs most
          → FillAsks tk sm fs rs ls b used heads' m lists hs ns xs khs kns kxs most
      fill_asks l {lists} {hs} {ns} {xs} {cap} {entries} {free} j E few B K =
          let f = heads_few in
          let S = A.situation in
          record {
            side = A.side;
            chains = chains_of;
            long = omega arith;
            lists_long = j;
            room = K;
            each = λ i u.
                let a = state_asks (get_or heads' i 0) (head_held S R H (get_or heads' i 0) (at_front heads' m i (omega arith) u)) in
                record {
                  tokens = a.tokens;
                  sums = a.sums;
                  finals = a.finals;
                  low = a.low;
                  below = below_asks gs S.h S.stands B.short E (inside (B.is S.h S.stands)) (omega arith) (let z = A.few_records in omega arith) (link_at tk b (get_or heads' i 0)) a.low;
                };
          }
        where
          inside : {free : ℕ} → Outcome A.situation.h used margin cap (head_links tk b heads' m) lists hs ns xs entries (Some free) → free ≤ entries + 1
          inside (was_filled k e u L) = omega arith

module _ {tk : List ℕ} {sm fs : List Float} {rs : List ℕ} {ls : List ℤ} {gs : List Float} {n b used : ℕ} {margin : Float} (A : StoresAsk tk sm fs rs ls gs n b used true margin) {counts : Bool} {heads : List ℕ} {all : ℕ} (R : RankedIs tk sm fs b n counts heads all)
    {bound : Float} {heads' : List ℕ} {m : ℕ} (H : HeadsListed tk sm fs rs ls b used counts bound heads heads' all m) where
  -- the stores of those lists
  pub below_asked : {lists hs ns : List ℕ} {xs : List Float} {places : ℕ} → used * 2 ≤ length lists → EntryRoom hs ns xs places → places ≤ 0x7fff_fff0 → BelowAsks rs ls gs used margin (head_links tk b heads' m) lists hs ns xs places
  below_asked l E few =
      let S = A.situation in
      record {
        walkable = A.walkable;
        gaps_long = A.gaps;
        h = S.h;
        stands = S.stands;
        fair = low S S.margin_is A.few_records true margin 1 (omega arith);
        links_low = λ k i. let (s, j, e) = map_from (link_of tk b) (take m heads') k i in let z = (state_asks A s (head_held S R H s j)).low in omega arith;
        lists_long = l;
        room = E;
        few = omega arith;
      }

-- ---- what is found

-- the lists below the heads, by how many entries they take
pub below_as : {rs : List ℕ} {ls : List ℤ} {gs : List Float} {used : ℕ} {margin : Float} {cap : ℕ} {links lists hs ns : List ℕ} {xs : List Float} {places : ℕ} {r f : Option ℕ} → BelowIs rs ls gs used margin cap links lists hs ns xs places r → r ≡ f
    → BelowIs rs ls gs used margin cap links lists hs ns xs places f
below_as {rs} {ls} {gs} {used} {margin} {cap} {links} {lists} {hs} {ns} {xs} {places} B e = subst (λ (x : Option ℕ). BelowIs rs ls gs used margin cap links lists hs ns xs places x) e B

module _ {tk : List ℕ} {sm fs : List Float} {rs : List ℕ} {ls : List ℤ} {gs : List Float} {b used : ℕ} {margin : Float} {counts : Bool} {listed : ℕ} {bound : Float} {heads heads' : List ℕ} {all m : ℕ} (H : HeadsListed tk sm fs rs ls b used counts bound heads heads' all m)
    {lists hs ns : List ℕ} {xs : List Float} {places entries : ℕ} (e : places ≡ entries) where
  -- the entries did not fit
  pub none_found : {r : Option ℕ} → BelowIs rs ls gs used margin (listed + 1) (head_links tk b heads' m) lists hs ns xs places r → r ≡ None → {x : Reason} → Err x ≡ ok_or r ListsFull → {khs kns : List ℕ} {kxs : List Float} {most : ℕ}
      → FoundIs tk sm fs rs ls gs b used margin counts listed bound heads all hs ns xs entries khs kns kxs most (Err x)
  none_found B z {x} q {khs} {kns} {kxs} {most} =
      subst (λ (y : Result ℕ Reason). FoundIs tk sm fs rs ls gs b used margin counts listed bound heads all hs ns xs entries khs kns kxs most y) (sym (q ∙ ap (λ (y : Option ℕ). ok_or y ListsFull) z))
      (entries_full heads' m H lists (subst (λ (p : ℕ). BelowIs rs ls gs used margin (listed + 1) (head_links tk b heads' m) lists hs ns xs p None) e (below_as B z)))

  module _ {free : ℕ} (B : BelowIs rs ls gs used margin (listed + 1) (head_links tk b heads' m) lists hs ns xs places (Some free)) {khs₀ kns₀ : List ℕ} {kxs₀ : List Float} {khs kns : List ℕ} {kxs : List Float} {most : ℕ} where
    found : {r : Option ℕ} → FillIs tk sm fs rs ls b used counts bound heads' m lists hs ns xs khs₀ kns₀ kxs₀ most khs kns kxs r → Found tk sm fs rs ls gs b used margin counts listed bound heads all hs ns xs entries khs kns kxs most r
    found F =
        record {
          heads' = heads';
          m = m;
          are = H;
          lists = lists;
          free = free;
          below = subst (λ (p : ℕ). BelowIs rs ls gs used margin (listed + 1) (head_links tk b heads' m) lists hs ns xs p (Some free)) e B;
          hashes = khs₀;
          links = kns₀;
          ksums = kxs₀;
          fill = F;
        }

    -- the kept readings did not fit
    pub many_found : FillIs tk sm fs rs ls b used counts bound heads' m lists hs ns xs khs₀ kns₀ kxs₀ most khs kns kxs None → FoundIs tk sm fs rs ls gs b used margin counts listed bound heads all hs ns xs entries khs kns kxs most (Err ListsFull)
    many_found F = map_full (found F)

    -- all fitted
    pub all_found : {r : ℕ} → FillIs tk sm fs rs ls b used counts bound heads' m lists hs ns xs khs₀ kns₀ kxs₀ most khs kns kxs (Some r) → FoundIs tk sm fs rs ls gs b used margin counts listed bound heads all hs ns xs entries khs kns kxs most (Ok r)
    all_found {r} F = are_found r (found F)

    -- the kept readings, if they fitted
    pub kept_found : (r : Option ℕ) → FillIs tk sm fs rs ls b used counts bound heads' m lists hs ns xs khs₀ kns₀ kxs₀ most khs kns kxs r → FoundIs tk sm fs rs ls gs b used margin counts listed bound heads all hs ns xs entries khs kns kxs most (ok_or r ListsFull)
    kept_found None F = many_found F
    kept_found (Some r) F = all_found F
