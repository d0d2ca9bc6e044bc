-- The definition's list by the bound that was computed: its readings, and how many entries and kept readings it counts for 15. Assumes nothing.
use Rattle.std.specs.Prelude.{◌≡◌, refl, Bool, true, false, ◌||◌, cond, ℤ, ltb, get_or, take, Float, Option as RustOption, Some, None, Err}
use Rattle.std.proofs.Common.{sym, ◌∙◌, arith, add-one, lt-ltb, le-ltb}
use Rattle.std.proofs.Math.Path.{ap, ap₂, subst}
use Prim.Native.Nat.{ℕ, zero, suc, ◌+◌, ◌-◌, ◌≤◌, ◌<◌}
use Rattle.std.proofs.Math.Bool.{or-true}
use Rattle.std.proofs.Math.Option.{Option, none, some}
use mathlib.Core.List.{List, [], map}
use Rattle.std.proofs.Math.Dec.{eqb}
use Rattle.std.proofs.Math.ListN.{length}
use Rattle.std.proofs.lemmas.List.{length-map}
use Rattle.lists.specs.Tests.{case, lt_or_le}
use Rattle.lists.specs.Lists.{firsts, sum}
use Rattle.lists.specs.Order.{perm-length}
use Rattle.model.specs.Basics.{∞, over}
use Rattle.model.specs.Graph.{Graph}
use Rattle.model.specs.Passes.{State}
use Rattle.model.specs.Reads.{Ranked as RankedToken, ranked, grouped, use_finals}
use Rattle.model.specs.Readings.{Kept, Readings, heads as all_heads, rank_at, merged, visited_all, plain, expanded, readings}
use Rattle.below.specs.Filling.{entries_below, Outcome, was_full, BelowIs}
use Rattle.below.specs.Marks.{head_links}
use Rattle.kept_readings.specs.Kept.{kept_list, Added}
use Rattle.kept_readings.specs.Laws.{list_length, added_fits}
use Rattle.kept_readings.specs.Meaning.{as_kept}
use Rattle.merged.specs.Items.{own_rank}
use Rattle.listing_laws.specs.Situation.{Situation}
use Rattle.listing_laws.specs.Owns.{rank_in}
use Rattle.listing_laws.specs.Heads.{bound_at, bound_past}
use Rattle.listing_laws.specs.Belows.{belows_are}
use Rattle.listing_laws.specs.Known.{kept_read_in, kept_groups}
use Rattle.listing.specs.declared.Ranked.{Ranked}
use Rattle.listing.specs.Listed.{bound_of, OwnListed, HeadsListed, Found, FoundIs, entries_full, map_full, overfull}
use Rattle.listing.specs.Finding.{head_held}
use Rattle.listing.specs.Keeping.{heads_are, put, belows, map_over, map_is}
use Rattle.refusals.specs.declared.Reason.{Reason}

-- with a margin, and some to be listed
readings_expanded : (g : Graph) (st : State) (f : Bool) (listed : ℕ) (margin : Float) → 0 < listed → st.margin ≡ some margin → readings g st f listed ≡ expanded g st f listed margin
unfolding readings
readings_expanded g st f zero margin l e = absurd (omega arith)
readings_expanded g st f (suc n) margin l e = ap (λ (o : Option Float). elim o as (λ y. Readings) [ none ↦ plain g st f | some m ↦ expanded g st f (suc n) m ]) e

module _ {tk : List ℕ} {sm fs : List Float} {rs : List ℕ} {ls : List ℤ} {gs : List Float} {n b used : ℕ} {margin : Float} (S : Situation tk sm fs rs ls gs n b used true margin) (few_records : used ≤ 1_048_576) (counts use_final : Bool) (c : counts ≡ use_finals S.g S.st use_final)
    {heads own : List ℕ} {o : Ranked} (O : OwnListed tk sm fs rs ls b n used counts heads own o) (listed : ℕ) (begins : 0 < listed) where
  abbrev bound : Float
  bound = bound_of tk sm fs b counts own o.own listed

  abbrev kept_all : List Kept
  kept_all = kept_read_in S.g S.st use_final margin bound (listed + 1)

  -- the bound is the definition's
  bound_is : rank_at (listed - 1) (grouped S.g S.st use_final) ≡ bound
  bound_is =
      let rank = own_rank tk sm fs b counts (get_or own (listed - 1) 0) in
      case (lt_or_le o.own listed)
      (λ l. bound_past S counts use_final c O.ranked O.copied O.firsts O.room (listed - 1) (omega arith) ∙ sym (ap (λ (t : Bool). cond t ∞ rank) (lt-ltb o.own listed l)))
      (λ l. bound_at S counts use_final c O.ranked O.copied O.firsts O.room (listed - 1) (omega arith) ∙ sym (ap (λ (t : Bool). cond t ∞ rank) (le-ltb o.own listed l)))

  readings_are : readings S.g S.st use_final listed ≡ expanded S.g S.st use_final listed margin
  readings_are = readings_expanded S.g S.st use_final listed margin begins S.margin_is

  -- the definition's readings, by this bound
  pub groups_are : (readings S.g S.st use_final listed).groups ≡ merged (grouped S.g S.st use_final) (kept_groups (kept_read_in S.g S.st use_final margin (bound_of tk sm fs b counts own o.own listed) (listed + 1)))
  unfolding expanded
  groups_are = ap (λ (x : Readings). x.groups) readings_are ∙ ap₂ (λ (x : Float) (k : ℕ). merged (grouped S.g S.st use_final) (kept_groups (kept_read_in S.g S.st use_final margin x k))) bound_is (sym (add-one listed))

  kepts_is : (expanded S.g S.st use_final listed margin).kepts ≡ length kept_all
  unfolding expanded
  kepts_is = ap₂ (λ (x : Float) (k : ℕ). length (kept_read_in S.g S.st use_final margin x k)) bound_is (sym (add-one listed))

  module _ {heads' : List ℕ} {m : ℕ} (H : HeadsListed tk sm fs rs ls b used counts bound heads heads' o.all m) where
    abbrev links : List ℕ
    links = head_links tk b heads' m

    expanded_heads : all_heads (use_finals S.g S.st use_final) (rank_at (listed - 1) (grouped S.g S.st use_final)) (ranked S.g S.st use_final) ≡ map (rank_in S counts) (take m heads')
    expanded_heads = ap₂ (λ (f : Bool) (x : Float). all_heads f x (ranked S.g S.st use_final)) (sym c) bound_is ∙ heads_are S use_final c O.ranked H

    belows_is : (expanded S.g S.st use_final listed margin).belows ≡ entries_below margin (listed + 1) (map S.h links)
    unfolding expanded
    belows_is =
        ap (λ (hs : List RankedToken). sum (map (λ (j : ℕ × ℕ). j.1) (firsts (λ (x y : ℕ × ℕ). eqb x.0 y.0) [] (visited_all margin (suc listed) hs)))) expanded_heads ∙ belows_are S counts heads' m (head_held S O.ranked H) (suc listed)
        ∙ ap (λ (k : ℕ). entries_below margin k (map S.h links)) (sym (add-one listed))

    counted : (entries kept : ℕ) → overfull S use_final listed entries kept ≡ (ltb entries (entries_below margin (listed + 1) (map S.h links)) || ltb kept (length kept_all))
    counted entries kept = ap (λ (x : Readings). over x.belows (some entries) || over x.kepts (some kept)) readings_are ∙ ap₂ (λ (x y : ℕ). ltb entries x || ltb kept y) belows_is kepts_is

    -- more entries than places
    below_full : {lists hs ns : List ℕ} {xs : List Float} {entries : ℕ} → BelowIs rs ls gs used margin (listed + 1) links lists hs ns xs entries None → (kept : ℕ) → overfull S use_final listed entries kept ≡ true
    below_full {lists} {hs} {ns} {xs} {entries} B kept = counted entries kept ∙ ap (λ (t : Bool). t || ltb kept (length kept_all)) (lt-ltb entries (entries_below margin (listed + 1) (map S.h links)) (go (B.is S.h S.stands)))
      where
        go : Outcome S.h used margin (listed + 1) links lists hs ns xs entries None → entries < entries_below margin (listed + 1) (map S.h links)
        go (was_full u) = u

  module _ {hs ns : List ℕ} {xs : List Float} {entries : ℕ} {khs kns : List ℕ} {kxs : List Float} {most : ℕ} {found : RustOption ℕ} (F : Found tk sm fs rs ls gs b used margin counts listed bound heads o.all hs ns xs entries khs kns kxs most found) where
    abbrev entries_all : ℕ
    entries_all = entries_below margin (listed + 1) (map S.h (links F.are))

    -- more kept readings than places
    map_full_lem : found ≡ None → overfull S use_final listed entries most ≡ true
    map_full_lem l = counted F.are entries most ∙ ap (λ (t : Bool). ltb entries entries_all || t) (lt-ltb most (length kept_all) (map_over S F few_records O.ranked use_final c l)) ∙ or-true (ltb entries entries_all)

    -- all have their places
    fits : {r : ℕ} → found ≡ Some r → r ≤ most
    fits l = added_fits (subst (λ (x : RustOption ℕ). Added F.hashes F.links F.ksums 0 F.fill.ks most khs kns kxs x) l F.fill.added)

    pub found_fits : {r : ℕ} → found ≡ Some r → overfull S use_final listed entries most ≡ false
    found_fits {r} l =
        let few = fits l in
        let w = put S F in
        let x = w.is in
        let y = w.few in
        let p = perm-length (map_is S F few_records O.ranked use_final c l) in
        let z : length (map (as_kept (rank_in S counts) (belows S F)) (kept_list khs kns kxs r)) ≡ r = length-map (kept_list khs kns kxs r) (as_kept (rank_in S counts) (belows S F)) ∙ list_length khs kns kxs r in
        counted F.are entries most ∙ ap₂ (λ (s t : Bool). s || t) (le-ltb entries entries_all (omega arith)) (le-ltb most (length kept_all) (omega arith))

  -- whichever of the two is full
  pub found_full : {hs ns : List ℕ} {xs : List Float} {entries : ℕ} {khs kns : List ℕ} {kxs : List Float} {most : ℕ} {e : Reason} → FoundIs tk sm fs rs ls gs b used margin counts listed bound heads o.all hs ns xs entries khs kns kxs most (Err e) → overfull S use_final listed entries most ≡ true
  found_full {most = most} (entries_full heads' m H lists B) = below_full H B most
  found_full (map_full F) = map_full_lem F refl
