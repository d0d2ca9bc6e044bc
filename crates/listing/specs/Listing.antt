-- The list of own groups and kept readings is the definition's, for every state that the stores stand for. Assumes nothing.
use Rattle.std.specs.Prelude.{◌≡◌, refl, ◌⊎◌, ℕ, ◌-◌, ◌*◌, ◌≤◌, ◌<◌, Bool, true, false, cond, List, [], ◌∷◌, map, ℤ, length, get_or, take, Float, Some}
use Rattle.std.proofs.Common.{sym, ap, ◌∙◌, subst, inl, inr, arith}
use mathlib.Core.List.Memᴰ.{head as here}
use mathlib.Core.List.Memᴰ.{tail as there}
use Rattle.lists.specs.Tests.{case}
use Rattle.lists.specs.Lists.{◌∈◌, keep_if}
use Rattle.lists.specs.Members.{keep_from, map_from}
use Rattle.lists.specs.Merge.{merge_one, merge_of}
use Rattle.model.specs.Reads.{use_finals}
use Rattle.model.specs.Readings.{Below}
use Rattle.below.specs.Stored.{stands_for}
use Rattle.kept_readings.specs.Kept.{kept_read_in as kept_place, Room}
use Rattle.merged.specs.Items.{kept_first, listed_kept, merged_items}
use Rattle.merged.specs.Left.{kept_stands, own_still_left}
use Rattle.listing_laws.specs.Situation.{Situation, Held}
use Rattle.listing_laws.specs.Alike.{at_front}
use Rattle.listing_laws.specs.Owns.{own_held}
use Rattle.listing_laws.specs.Whole.{item_group, same_test, list_is}
use Rattle.listing.specs.declared.Ranked.{Ranked}
use Rattle.listing.specs.Listed.{OwnListed, bound_of, Found, WithIs, ItemHeld, ListIs}
use Rattle.listing.specs.Rooms.{room_less}
use Rattle.listing.specs.Owning.{own_item}
use Rattle.listing.specs.Keeping.{belows, decoded, belows_few, all_met, found_known, map_is, sound_at}
use Rattle.listing.specs.Counts.{groups_are}
use Rattle.listing.specs.Joining.{left_from, order_low}

-- ---- an item

-- an own group, or a kept reading's number from 2 ^ 31 on
abbrev Item : (own kept : List ℕ) → ℕ → Type 0
Item own kept x = (x ∈ own) ⊎ ((i : ℕ) × (i ∈ kept) × (x ≡ listed_kept i))

module _ (first : ℕ → ℕ → Bool) where
  merge_from : (own kept : List ℕ) (x : ℕ) → x ∈ merge_of first (λ s. s) listed_kept own kept → Item own kept x
  merge_from [] kept x m = inr (map_from listed_kept kept x m)
  merge_from (o ∷ own) kept x m = one kept m (λ zs k. merge_from own zs x k)
    where
      one : (kept : List ℕ) → x ∈ merge_one first (λ s. s) listed_kept o (merge_of first (λ s. s) listed_kept own) kept → ((zs : List ℕ) → x ∈ merge_of first (λ s. s) listed_kept own zs → Item own zs x) → Item (o ∷ own) kept x
      one [] (here e) rest = inl (here e)
      one [] (there m) rest = case (rest [] m) (λ k. inl (there k)) inr
      one (k ∷ kept) m rest = go (first k o) m (λ i. one kept i rest)
        where
          go : (b : Bool) → x ∈ cond b (listed_kept k ∷ merge_one first (λ s. s) listed_kept o (merge_of first (λ s. s) listed_kept own) kept) (o ∷ merge_of first (λ s. s) listed_kept own (k ∷ kept))
              → (x ∈ merge_one first (λ s. s) listed_kept o (merge_of first (λ s. s) listed_kept own) kept → Item (o ∷ own) kept x) → Item (o ∷ own) (k ∷ kept) x
          go true (here e) next = inr (k, here refl, e)
          go true (there m) next = case (next m) inl (λ i. inr (i.0, there i.1, i.2))
          go false (here e) next = inl (here e)
          go false (there m) next = case (rest (k ∷ kept) m) (λ i. inl (there i)) inr

  items_from : (own kept : List ℕ) (x : ℕ) → x ∈ merged_items first own kept → Item own kept x
  items_from [] kept x m = elim m [ ]
  items_from (o ∷ own) kept x (here e) = inl (here e)
  items_from (o ∷ own) kept x (there m) = case (merge_from own kept x m) (λ k. inl (there k)) inr

-- ---- the list

module _ {tk : List ℕ} {sm fs : List Float} {rs : List ℕ} {ls : List ℤ} {gs : List Float} {n b used : ℕ} {margin : Float} (S : Situation tk sm fs rs ls gs n b used true margin) (few_states : n ≤ 65_535) (few_records : used ≤ 1_048_576) (counts f : Bool) (c : counts ≡ use_finals S.g S.st f)
    {heads own : List ℕ} {ranked : Ranked} (O : OwnListed tk sm fs rs ls b n used counts heads own ranked) {listed : ℕ} (begins : 0 < listed)
    {hs ns : List ℕ} {xs : List Float} {entries : ℕ} {khs kns : List ℕ} {kxs : List Float} {most r : ℕ} (F : Found tk sm fs rs ls gs b used margin counts listed (bound_of tk sm fs b counts own ranked.own listed) heads ranked.all hs ns xs entries khs kns kxs most (Some r)) (few : r ≤ most)
    (nexts : entries * 3 ≤ length ns) (room : Room khs kns kxs most) {list : List ℕ} {k : ℕ} (W : WithIs tk sm fs rs ls b counts own ranked.own ns khs kns kxs r list k) where
  abbrev bs : List Below
  bs = belows S F

  item_held : (x : ℕ) → Item (take ranked.own own) (take r W.order) x → ItemHeld tk b n used bs khs kns kxs x
  item_held x (inl m) = own_item few_states x (own_held S counts O.ranked O.copied O.firsts x m)
  item_held x (inr (i, m, e)) =
      let low = order_low W.ordered i m in
      let z : i ≡ x - 2_147_483_648 = omega arith in
      let y = sound_at S F few_records O.ranked refl i low in
      record {
        own = λ u. absurd (omega arith);
        room = λ u. room_less room (omega arith);
        kept = λ u. subst (λ (j : ℕ). Held tk b n (kept_place khs kns kxs j).state) z y.held;
        entry = λ u. subst (λ (j : ℕ). (kept_place khs kns kxs j).entry ≤ length bs) z y.entry;
        route = λ u. subst (λ (j : ℕ). length (stands_for bs (kept_place khs kns kxs j).entry).route ≤ used) z y.route;
      }

  -- the items stand for the definition's readings
  pub list_right : ListIs S counts f listed hs ns xs khs kns kxs list k
  list_right =
      let first = kept_first tk sm fs b counts khs kns kxs in
      let same = same_test rs ls tk b ns khs kns kxs in
      let left = own_still_left same first (take r W.order) (take ranked.own own) in
      let kept = keep_if (kept_stands same first (take ranked.own own)) (take r W.order) in
      record {
        bs = bs;
        decoded = decoded S F;
        nexts = belows_few S F nexts;
        each = λ i l.
            let m : get_or list i 0 ∈ merged_items first left kept = subst (λ (ys : List ℕ). get_or list i 0 ∈ ys) W.is (at_front list k i W.room l) in
            item_held (get_or list i 0)
            (case (items_from first left kept (get_or list i 0) m) (λ j. inl (left_from same first (take r W.order) (take ranked.own own) (get_or list i 0) j))
            (λ j. inr (j.0, keep_from (kept_stands same first (take ranked.own own)) (take r W.order) j.0 j.1, j.2)));
        are = ap (map (item_group S counts bs khs kns kxs)) W.is
            ∙ list_is S few_states f counts c O.ranked O.copied O.firsts O.room (found_known S F few_records O.ranked f c) (decoded S F) khs kns kxs r W.order W.ordered
            (all_met S F few_records O.ranked f c refl W.order W.ordered) (map_is S F few_records O.ranked f c refl)
            ∙ sym (groups_are S few_records counts f c O listed begins);
      }
