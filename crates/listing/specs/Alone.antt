-- Where no kept readings are listed, the own groups are the list. Assumes nothing.
use Rattle.std.specs.Prelude.{◌≡◌, refl, ℕ, zero, suc, ◌≤◌, ◌<◌, Bool, true, false, ◌&&◌, ◌||◌, cond, List, [], map, ℤ, ltb, length, get_or, take, Float, Ok}
use Rattle.std.proofs.Common.{sym, ap, ap₂, ◌∙◌, subst, arith, ltb-false, le-ltb}
use Rattle.std.proofs.Math.Option.{Option, none, some}
use Rattle.lists.specs.Lists.{◌∈◌}
use Rattle.model.specs.Basics.{over}
use Rattle.model.specs.Graph.{Graph}
use Rattle.model.specs.Passes.{State}
use Rattle.model.specs.Reads.{Group, use_finals}
use Rattle.model.specs.Readings.{Readings, plain, expanded, readings}
use Rattle.below.specs.Maps.{map_same}
use Rattle.listing_laws.specs.Situation.{Situation, Held}
use Rattle.listing_laws.specs.Alike.{at_front}
use Rattle.listing_laws.specs.Owns.{group_in, own_held, grouped_are}
use Rattle.listing_laws.specs.Whole.{item_group, item_own}
use Rattle.listing.specs.declared.Ranked.{Ranked}
use Rattle.listing.specs.Listed.{Copied, OwnListed, ItemHeld, overfull, ListIs, ListingIs, are_items}
use Rattle.listing.specs.Owning.{few_own, own_item}

-- with no margin, or none to be listed
readings_plain : (g : Graph) (st : State) (f keeps : Bool) (margin : Float) → st.margin ≡ cond keeps (some margin) none → (listed : ℕ) → (keeps && ltb 0 listed) ≡ false → readings g st f listed ≡ plain g st f
unfolding readings
readings_plain g st f keeps margin e zero q = refl
readings_plain g st f true margin e (suc n) q = absurd (let z = ltb-false 0 (suc n) q in omega arith)
readings_plain g st f false margin e (suc n) q = ap (λ (o : Option Float). elim o as (λ y. Readings) [ none ↦ plain g st f | some m ↦ expanded g st f (suc n) m ]) e

module _ {tk : List ℕ} {sm fs : List Float} {rs : List ℕ} {ls : List ℤ} {gs : List Float} {n b used : ℕ} {keeps : Bool} {margin : Float} (S : Situation tk sm fs rs ls gs n b used keeps margin) (few_states : n ≤ 65_535) {counts : Bool} {heads own : List ℕ} {o : Ranked} (O : OwnListed tk sm fs rs ls b n used counts heads own o)
    (listed : ℕ) (alone : (keeps && ltb 0 listed) ≡ false) {list : List ℕ} (copied : Copied own list o.own) (long : n ≤ length list) (use_final : Bool) (c : counts ≡ use_finals S.g S.st use_final) (khs kns : List ℕ) (kxs : List Float) where
  abbrev item : ℕ → Group
  item i = item_group S counts [] khs kns kxs i

  plain_is : readings S.g S.st use_final listed ≡ plain S.g S.st use_final
  plain_is = readings_plain S.g S.st use_final keeps margin S.margin_is listed alone

  held : (s : ℕ) → s ∈ take o.own own → Held tk b n s
  held = own_held S counts O.ranked O.copied O.firsts

  item_held : (i : ℕ) → i < o.own → ItemHeld tk b n used [] khs kns kxs (get_or list i 0)
  item_held i l =
      let f = few_own O in
      own_item few_states (get_or list i 0) (held (get_or list i 0) (subst (λ (xs : List ℕ). get_or list i 0 ∈ xs) copied.is (at_front list o.own i (omega arith) l)))

  fits : (entries kept : ℕ) → overfull S use_final listed entries kept ≡ false
  fits entries kept =
      ap (λ (x : Readings). over x.belows (some entries) || over x.kepts (some kept)) plain_is
      ∙ ap₂ (λ (x y : Bool). x || y) (le-ltb entries 0 (omega arith)) (le-ltb kept 0 (omega arith))

  are_own : (hs ns : List ℕ) (xs : List Float) → ListIs S counts use_final listed hs ns xs khs kns kxs list o.own
  are_own hs ns xs =
      record {
        bs = [];
        decoded = record { next_low = λ i l. absurd (omega arith); join_low = λ i l. absurd (omega arith); is = λ i l. absurd (omega arith) };
        nexts = omega arith;
        each = item_held;
        are = ap (map item) copied.is ∙ map_same item (group_in S counts) (take o.own own) (λ s k. item_own S counts [] khs kns kxs few_states s (held s k)) ∙ sym (grouped_are S counts use_final c O.ranked O.copied O.firsts) ∙ sym (ap (λ (x : Readings). x.groups) plain_is);
      }

-- what the list's contract says, where its items are the own groups
pub own_alone : {tk : List ℕ} {sm fs : List Float} {rs : List ℕ} {ls : List ℤ} {n b used : ℕ} → n ≤ 65_535 → {counts : Bool} {heads own : List ℕ} {o : Ranked} → OwnListed tk sm fs rs ls b n used counts heads own o → {list : List ℕ} → Copied own list o.own → n ≤ length list
    → (gs : List Float) (keeps : Bool) (margin : Float) (listed : ℕ) → (keeps && ltb 0 listed) ≡ false → (entries kept : ℕ) (hs ns : List ℕ) (xs : List Float) (khs kns : List ℕ) (kxs : List Float)
    → ListingIs tk sm fs rs ls gs n b used keeps margin counts listed entries kept hs ns xs khs kns kxs list (Ok o.own)
own_alone few {o = o} O copied long gs keeps margin listed alone entries kept hs ns xs khs kns kxs =
    let f = few_own O in
    are_items o.own (omega arith) (omega arith) (λ S use_final c. (fits S few O listed alone copied long use_final c khs kns kxs entries kept, are_own S few O listed alone copied long use_final c khs kns kxs hs ns xs))
