-- What the steps of the reading list ask and leave.
use Rattle.std.specs.Prelude.{◌≡◌, ℕ, ◌-◌, ◌+◌, ◌*◌, ◌≤◌, ◌<◌, Bool, true, false, not, ◌||◌, cond, List, map, ℤ, T, ltb, length, get_or, take, Float, Option, Some, None, Result, Ok, Err}
use Rattle.std.proofs.Math.Option.{some}
use Rattle.std.specs.Float.Ieee.{is_nan}
use Rattle.lists.specs.Lists.{keep_if}
use Rattle.model.specs.Basics.{∞, over}
use Rattle.model.specs.Reads.{use_finals}
use Rattle.model.specs.Readings.{Below, readings}
use Rattle.tokens.specs.Layout.{held_at, place_in}
use Rattle.traceback.specs.declared.Candidate.{Candidate}
use Rattle.traceback.specs.Ranks.{candidate_at}
use Rattle.traceback.specs.Chain.{Walkable}
use Rattle.below.specs.Stored.{stands_for, Decoded}
use Rattle.below.specs.Filling.{BelowIs}
use Rattle.below.specs.Marks.{head_links}
use Rattle.ranking.specs.Ranked.{RankedIs}
use Rattle.groups.specs.Firsts.{FirstsIs}
use Rattle.kept_readings.specs.Kept.{kept_read_in, Room}
use Rattle.kept_readings.specs.Heads.{HeadsAre, FillIs}
use Rattle.kept_order.specs.Before.{kept_is_before}
use Rattle.kept_order.specs.Asks.{OrderIs}
use Rattle.merged.specs.Items.{OwnAsks, own_rank, kept_first, merged_items}
use Rattle.merged.specs.Left.{kept_stands, own_still_left}
use Rattle.listing_laws.specs.Situation.{Situation, Held}
use Rattle.listing_laws.specs.Whole.{item_group, same_test}
use Rattle.listing.specs.declared.Ranked.{Ranked}
use Rattle.refusals.specs.declared.Reason.{Reason}
use Rattle.refusals.specs.declared.Reason.TheVariants.{ListsFull}

-- ---- the stores and the scratch

-- lengths of the slices that the read works in
pub record Scratch : Type 0 where
  pub keys : ℕ
  pub places : ℕ
  pub own : ℕ
  pub heads : ℕ
  pub list : ℕ
  pub lists : ℕ
  pub route : ℕ
  pub order : ℕ

abbrev pub scratch : (keys places own heads list lists route order : ℕ) → Scratch
scratch k p o h l j r q = record { keys = k; places = p; own = o; heads = h; list = l; lists = j; route = r; order = q }

-- stores that stand for a state of the copy
pub record StoresAsk (tk : List ℕ) (sm fs : List Float) (rs : List ℕ) (ls : List ℤ) (gs : List Float) (n b used : ℕ) (keeps : Bool) (margin : Float) : Type 0 where
  pub side : b ≤ 1
  pub tokens : n * 8 ≤ length tk
  pub sums : n * 4 ≤ length sm
  pub finals : n ≤ length fs
  pub walkable : Walkable rs ls used
  pub gaps : used * 2 ≤ length gs
  pub few : n ≤ 65_535
  pub few_records : used ≤ 1_048_576
  pub situation : Situation tk sm fs rs ls gs n b used keeps margin
  pub known : (counts : Bool) (s : ℕ) → s < n → (held_at tk (place_in b s) ≡ 0 → ⊥) → (c : Candidate) → candidate_at tk sm fs b s counts ≡ Some c → T (not (is_nan c.rank))

-- a place for every state, for every record, and for every kept reading that the store has places for
pub record ScratchWide (n used kept : ℕ) (z : Scratch) : Type 0 where
  pub keys : n ≤ z.keys
  pub keys_kept : kept ≤ z.keys
  pub places : n ≤ z.places
  pub own : n ≤ z.own
  pub heads : n ≤ z.heads
  pub list : n + kept ≤ z.list
  pub lists : used * 2 ≤ z.lists
  pub route : used ≤ z.route
  pub order : kept ≤ z.order

-- stores and scratch
pub record ListingAsks (tk : List ℕ) (sm fs : List Float) (rs : List ℕ) (ls : List ℤ) (gs : List Float) (n b used : ℕ) (keeps : Bool) (margin : Float) (kept : ℕ) (z : Scratch) : Type 0 where
  pub stores : StoresAsk tk sm fs rs ls gs n b used keeps margin
  pub wide : ScratchWide n used kept z

-- ---- the own groups

-- the first n of one slice in another
pub record Copied (from to' : List ℕ) (n : ℕ) : Type 0 where
  pub is : take n to' ≡ take n from

-- what a kept reading has to rank below: the rank of the listed-th own group, +∞ where there are fewer
abbrev pub bound_of : List ℕ → (sm fs : List Float) → (side : ℕ) → (counts : Bool) → (own : List ℕ) → (m listed : ℕ) → Float
bound_of tk sm fs b counts own m listed = cond (ltb m listed) ∞ (own_rank tk sm fs b counts (get_or own (listed - 1) 0))

-- that group's token has its places
pub record BoundAsks (tk : List ℕ) (sm fs : List Float) (b : ℕ) (own : List ℕ) (m listed : ℕ) : Type 0 where
  pub side : b ≤ 1
  pub begins : 0 < listed
  pub room : m ≤ length own
  pub each : (i : ℕ) → i < m → OwnAsks tk sm fs (get_or own i 0)

-- stores as above, and places for every state
pub record OwnListAsks (tk : List ℕ) (sm fs : List Float) (rs : List ℕ) (ls : List ℤ) (n b used keys places own heads : ℕ) : Type 0 where
  pub gs : List Float
  pub keeps : Bool
  pub margin : Float
  pub stores : StoresAsk tk sm fs rs ls gs n b used keeps margin
  pub keys_long : n ≤ keys
  pub places_long : n ≤ places
  pub own_long : n ≤ own
  pub heads_long : n ≤ heads

-- ranked states in `heads`, and of each word list the first in `own`
pub record OwnListed (tk : List ℕ) (sm fs : List Float) (rs : List ℕ) (ls : List ℤ) (b n used : ℕ) (counts : Bool) (heads own : List ℕ) (r : Ranked) : Type 0 where
  pub ranked : RankedIs tk sm fs b n counts heads r.all
  pub before : List ℕ
  pub copied : take r.all before ≡ take r.all heads
  pub firsts : FirstsIs tk rs ls b used false before own r.all r.own
  pub room : r.own ≤ length own

-- ---- the kept readings

-- the best of each head, and of these the ones that are expanded
pub record HeadsListed (tk : List ℕ) (sm fs : List Float) (rs : List ℕ) (ls : List ℤ) (b used : ℕ) (counts : Bool) (bound : Float) (heads heads' : List ℕ) (n m : ℕ) : Type 0 where
  pub between : List ℕ
  pub k : ℕ
  pub firsts : FirstsIs tk rs ls b used true heads between n k
  pub are : HeadsAre tk sm fs rs ls b used counts bound between heads' k m

-- ranked states to begin from, scratch, and places for kept readings
pub record FindAsks (tk : List ℕ) (sm fs : List Float) (rs : List ℕ) (ls : List ℤ) (gs : List Float) (n b used : ℕ) (counts : Bool) (margin : Float) (listed : ℕ) (heads : List ℕ) (all keys places lists : ℕ) (khs kns : List ℕ) (kxs : List Float) (most : ℕ) : Type 0 where
  pub stores : StoresAsk tk sm fs rs ls gs n b used true margin
  pub few : listed ≤ 64
  pub ranked : RankedIs tk sm fs b n counts heads all
  pub heads_long : n ≤ length heads
  pub keys_long : n ≤ keys
  pub places_long : n ≤ places
  pub lists_long : used * 2 ≤ lists
  pub room : Room khs kns kxs most

-- the lists below the heads, and the map of kept readings, how many or none where they do not fit
pub record Found (tk : List ℕ) (sm fs : List Float) (rs : List ℕ) (ls : List ℤ) (gs : List Float) (b used : ℕ) (margin : Float) (counts : Bool) (listed : ℕ) (bound : Float) (heads : List ℕ) (all : ℕ)
    (hs ns : List ℕ) (xs : List Float) (entries : ℕ) (khs kns : List ℕ) (kxs : List Float) (most : ℕ) (r : Option ℕ) : Type 0 where
  pub heads' : List ℕ
  pub m : ℕ
  pub are : HeadsListed tk sm fs rs ls b used counts bound heads heads' all m
  pub lists : List ℕ
  pub free : ℕ
  pub below : BelowIs rs ls gs used margin (listed + 1) (head_links tk b heads' m) lists hs ns xs entries (Some free)
  pub hashes : List ℕ
  pub links : List ℕ
  pub ksums : List Float
  pub fill : FillIs tk sm fs rs ls b used counts bound heads' m lists hs ns xs hashes links ksums most khs kns kxs r

-- a full store, or how many were found
pub data FoundIs (tk : List ℕ) (sm fs : List Float) (rs : List ℕ) (ls : List ℤ) (gs : List Float) (b used : ℕ) (margin : Float) (counts : Bool) (listed : ℕ) (bound : Float) (heads : List ℕ) (all : ℕ)
    (hs ns : List ℕ) (xs : List Float) (entries : ℕ) (khs kns : List ℕ) (kxs : List Float) (most : ℕ) : Result ℕ Reason → Type 0 where
  entries_full : (heads' : List ℕ) (m : ℕ) → HeadsListed tk sm fs rs ls b used counts bound heads heads' all m → (lists : List ℕ) → BelowIs rs ls gs used margin (listed + 1) (head_links tk b heads' m) lists hs ns xs entries None
      → FoundIs tk sm fs rs ls gs b used margin counts listed bound heads all hs ns xs entries khs kns kxs most (Err ListsFull)
  map_full : Found tk sm fs rs ls gs b used margin counts listed bound heads all hs ns xs entries khs kns kxs most None
      → FoundIs tk sm fs rs ls gs b used margin counts listed bound heads all hs ns xs entries khs kns kxs most (Err ListsFull)
  are_found : (r : ℕ) → Found tk sm fs rs ls gs b used margin counts listed bound heads all hs ns xs entries khs kns kxs most (Some r)
      → FoundIs tk sm fs rs ls gs b used margin counts listed bound heads all hs ns xs entries khs kns kxs most (Ok r)

-- ---- both together

-- lengths of the slices that both are put together in
pub record Slices : Type 0 where
  pub keys : ℕ
  pub places : ℕ
  pub gone : ℕ
  pub order : ℕ
  pub first_route : ℕ
  pub second_route : ℕ
  pub list : ℕ

abbrev pub slices : (keys places gone order first second list : ℕ) → Slices
slices k p g o r q l = record { keys = k; places = p; gone = g; order = o; first_route = r; second_route = q; list = l }

-- own groups, and kept readings that were found
pub record WithAsks (tk : List ℕ) (sm fs : List Float) (rs : List ℕ) (ls : List ℤ) (n b used : ℕ) (counts : Bool) (own : List ℕ) (m : ℕ) (ns khs kns : List ℕ) (kxs : List Float) (r : ℕ) (z : Slices) : Type 0 where
  pub gs : List Float
  pub margin : Float
  pub stores : StoresAsk tk sm fs rs ls gs n b used true margin
  pub ranked : Ranked
  pub own_are : ranked.own ≡ m
  pub heads : List ℕ
  pub own_listed : OwnListed tk sm fs rs ls b n used counts heads own ranked
  pub listed : ℕ
  pub begins : 0 < listed
  pub listed_few : listed ≤ 64
  pub hs : List ℕ
  pub xs : List Float
  pub entries : ℕ
  pub nexts : entries * 3 ≤ length ns
  pub most : ℕ
  pub found : Found tk sm fs rs ls gs b used margin counts listed (bound_of tk sm fs b counts own m listed) heads ranked.all hs ns xs entries khs kns kxs most (Some r)
  pub few : r ≤ most
  pub most_few : most ≤ 0x7fff_fff0
  pub room : Room khs kns kxs most
  pub keys_long : (n ≤ z.keys) × (most ≤ z.keys)
  pub places_long : n ≤ z.places
  pub gone_long : n ≤ z.gone
  pub order_long : most ≤ z.order
  pub first_long : used ≤ z.first_route
  pub second_long : used ≤ z.second_route
  pub list_long : n + most ≤ z.list

-- in some order that is the list's, what is left of both is merged
pub record WithIs (tk : List ℕ) (sm fs : List Float) (rs : List ℕ) (ls : List ℤ) (b : ℕ) (counts : Bool) (own : List ℕ) (m : ℕ) (ns khs kns : List ℕ) (kxs : List Float) (r : ℕ) (list : List ℕ) (k : ℕ) : Type 0 where
  pub order : List ℕ
  pub ordered : OrderIs (kept_is_before tk rs ls b ns khs kns kxs) r order
  pub room : k ≤ length list
  pub few : k ≤ m + r
  pub is : take k list ≡ merged_items (kept_first tk sm fs b counts khs kns kxs)
      (own_still_left (same_test rs ls tk b ns khs kns kxs) (kept_first tk sm fs b counts khs kns kxs) (take r order) (take m own))
      (keep_if (kept_stands (same_test rs ls tk b ns khs kns kxs) (kept_first tk sm fs b counts khs kns kxs) (take m own)) (take r order))

-- ---- the list

-- an item that can be read: its state is active, and a kept one's entry was put
pub record ItemHeld (tk : List ℕ) (b n used : ℕ) (bs : List Below) (khs kns : List ℕ) (kxs : List Float) (i : ℕ) : Type 0 where
  pub own : i < 2_147_483_648 → Held tk b n i
  pub room : (2_147_483_648 ≤ i) → Room khs kns kxs (i - 2_147_483_648 + 1)
  pub kept : (2_147_483_648 ≤ i) → Held tk b n (kept_read_in khs kns kxs (i - 2_147_483_648)).state
  pub entry : (2_147_483_648 ≤ i) → (kept_read_in khs kns kxs (i - 2_147_483_648)).entry ≤ length bs
  pub route : (2_147_483_648 ≤ i) → length (stands_for bs (kept_read_in khs kns kxs (i - 2_147_483_648)).entry).route ≤ used

module _ {tk : List ℕ} {sm fs : List Float} {rs : List ℕ} {ls : List ℤ} {gs : List Float} {n b used : ℕ} {keeps : Bool} {margin : Float} (S : Situation tk sm fs rs ls gs n b used keeps margin) where
  -- 15, at these places
  abbrev pub overfull : (use_final : Bool) → (listed entries kept : ℕ) → Bool
  overfull use_final listed entries kept = let r = readings S.g S.st use_final listed in over r.belows (some entries) || over r.kepts (some kept)

  -- the first k items stand for the definition's readings
  pub record ListIs (counts use_final : Bool) (listed : ℕ) (hs ns : List ℕ) (xs : List Float) (khs kns : List ℕ) (kxs : List Float) (list : List ℕ) (k : ℕ) : Type 0 where
    pub bs : List Below
    pub decoded : Decoded S.h used hs ns xs bs
    pub nexts : length bs * 3 ≤ length ns
    pub each : (i : ℕ) → i < k → ItemHeld tk b n used bs khs kns kxs (get_or list i 0)
    pub are : map (item_group S counts bs khs kns kxs) (take k list) ≡ (readings S.g S.st use_final listed).groups

-- a full store, or the items of the definition's readings; whatever state the stores stand for
pub data ListingIs (tk : List ℕ) (sm fs : List Float) (rs : List ℕ) (ls : List ℤ) (gs : List Float) (n b used : ℕ) (keeps : Bool) (margin : Float) (counts : Bool) (listed entries kept : ℕ)
    (hs ns : List ℕ) (xs : List Float) (khs kns : List ℕ) (kxs : List Float) (list : List ℕ) : Result ℕ Reason → Type 0 where
  is_full : ((S : Situation tk sm fs rs ls gs n b used keeps margin) (use_final : Bool) → counts ≡ use_finals S.g S.st use_final → overfull S use_final listed entries kept ≡ true)
      → ListingIs tk sm fs rs ls gs n b used keeps margin counts listed entries kept hs ns xs khs kns kxs list (Err ListsFull)
  are_items : (k : ℕ) → k ≤ length list → k ≤ n + kept
      → ((S : Situation tk sm fs rs ls gs n b used keeps margin) (use_final : Bool) → counts ≡ use_finals S.g S.st use_final → (overfull S use_final listed entries kept ≡ false) × ListIs S counts use_final listed hs ns xs khs kns kxs list k)
      → ListingIs tk sm fs rs ls gs n b used keeps margin counts listed entries kept hs ns xs khs kns kxs list (Ok k)
