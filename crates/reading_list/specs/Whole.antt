-- The read as a whole: what its steps ask, and each way out. Assumes nothing.
use Rattle.std.specs.Prelude.{◌≡◌, ℕ, ◌+◌, ◌*◌, ◌≤◌, ◌<◌, Bool, true, false, ◌||◌, List, [], ◌∷◌, map, ℤ, ltb, length, Float, Result, Ok, Err}
use Rattle.std.proofs.Math.Path.{refl, sym, ap₂}
use Rattle.std.proofs.Common.{◌∙◌, ap, subst, arith, lt-ltb, le-ltb}
use Rattle.std.proofs.Math.Option.{Option}
use Rattle.model.specs.Basics.{refuse, first_of, over}
use Rattle.model.specs.Reads.{trace_groups, Group, use_finals}
use Rattle.model.specs.Readings.{readings}
use Rattle.model.specs.Calls.{readings_answer, reading_of, short, unless, read_readings}
use Rattle.traceback.specs.Table.{FinalsCount}
use Rattle.listing_laws.specs.Situation.{Situation}
use Rattle.listing.specs.Listed.{Scratch, ListingAsks, overfull, ListIs, ListingIs, is_full, are_items}
use Rattle.reading_list.specs.Outputs.{Outputs, places_in}
use Rattle.reading_list.specs.Right.{readings_refused, ReadingsRight}
use Rattle.reading_list.specs.Lines.{view, ListAsks, ListWritten, no_room, are_written}
use Rattle.reading_list.specs.Groups.{link_is, even_is, item_is}
use Rattle.reading_list.specs.Answers.{answer_is, readings_are_listed}
use Rattle.refusals.specs.declared.Reason.{Reason}
use Rattle.refusals.specs.declared.Reason.TheVariants.{BadSetting, TooShort, ListsFull}

-- what has two places for each record has one
pub count_places : {n a b : ℕ} → n * 2 ≤ a → b ≡ a → n ≤ b
count_places l e = omega arith

-- ---- more than 64

module _ {tk : List ℕ} {sm fs : List Float} {rs : List ℕ} {ls : List ℤ} {gs : List Float} {n b used : ℕ} {keeps : Bool} {margin : Float} {decoded : ℕ} {use_final : Bool} {listed max entries kept : ℕ} {o : Outputs} where
  pub too_many_lem : (ltb 64 listed || ltb 64 max) ≡ true → ReadingsRight tk sm fs rs ls gs n b used keeps margin decoded use_final listed max entries kept o o (Err BadSetting)
  unfolding read_readings
  too_many_lem e = record { answer = λ S q l h. readings_refused BadSetting (rw e) refl }

pub many_listed : (listed max : ℕ) → 64 < listed → (ltb 64 listed || ltb 64 max) ≡ true
many_listed listed max l = ap (λ (x : Bool). x || ltb 64 max) (lt-ltb 64 listed l)

pub many_traced : (listed max : ℕ) → listed ≤ 64 → 64 < max → (ltb 64 listed || ltb 64 max) ≡ true
many_traced listed max l m = ap₂ (λ (x y : Bool). x || y) (le-ltb 64 listed l) (lt-ltb 64 max m)

not_many : (listed max : ℕ) → listed ≤ 64 → max ≤ 64 → (ltb 64 listed || ltb 64 max) ≡ false
not_many listed max l m = ap₂ (λ (x y : Bool). x || y) (le-ltb 64 listed l) (le-ltb 64 max m)

-- ---- the list

-- the items that were listed
pub record ItemsAre (tk : List ℕ) (sm fs : List Float) (rs : List ℕ) (ls : List ℤ) (gs : List Float) (n b used : ℕ) (keeps : Bool) (margin : Float) (counts : Bool) (listed entries kept : ℕ) (hs ns : List ℕ) (xs : List Float) (khs kns : List ℕ) (kxs : List Float) (list : List ℕ) (k : ℕ) : Type 0 where
  pub long : k ≤ length list
  pub few : k ≤ n + kept
  pub is : (S : Situation tk sm fs rs ls gs n b used keeps margin) (use_final : Bool) → counts ≡ use_finals S.g S.st use_final → (overfull S use_final listed entries kept ≡ false) × ListIs S counts use_final listed hs ns xs khs kns kxs list k

counts_are : {tk : List ℕ} {sm fs : List Float} {rs : List ℕ} {ls : List ℤ} {gs : List Float} {n b used : ℕ} {keeps : Bool} {margin : Float} {counts use_final : Bool} → FinalsCount tk fs b n use_final counts
    → (S : Situation tk sm fs rs ls gs n b used keeps margin) → counts ≡ use_finals S.g S.st use_final
counts_are {sm = sm} {used = used} counted S = counted.is sm S.g S.finals S.h used S.st S.shown

module _ {tk : List ℕ} {sm fs : List Float} {rs : List ℕ} {ls : List ℤ} {gs : List Float} {n b used : ℕ} {keeps : Bool} {margin : Float} {counts : Bool} {listed entries kept : ℕ} {hs ns : List ℕ} {xs : List Float} {khs kns : List ℕ} {kxs : List Float} {list : List ℕ} where
  pub items_of : {k : ℕ} → ListingIs tk sm fs rs ls gs n b used keeps margin counts listed entries kept hs ns xs khs kns kxs list (Ok k) → ItemsAre tk sm fs rs ls gs n b used keeps margin counts listed entries kept hs ns xs khs kns kxs list k
  items_of (are_items k long few is) = record { long = long; few = few; is = is }

  full_of : {e : Reason} → ListingIs tk sm fs rs ls gs n b used keeps margin counts listed entries kept hs ns xs khs kns kxs list (Err e)
      → (S : Situation tk sm fs rs ls gs n b used keeps margin) (use_final : Bool) → counts ≡ use_finals S.g S.st use_final → overfull S use_final listed entries kept ≡ true
  full_of (is_full d) = d

  -- it is refused for one reason
  reason_of : {e : Reason} → ListingIs tk sm fs rs ls gs n b used keeps margin counts listed entries kept hs ns xs khs kns kxs list (Err e) → e ≡ ListsFull
  reason_of (is_full d) = refl

  module _ {use_final : Bool} (counted : FinalsCount tk fs b n use_final counts) where
    -- a full store
    pub read_full : {e : Reason} {max decoded : ℕ} {o : Outputs} → listed ≤ 64 → max ≤ 64 → ListingIs tk sm fs rs ls gs n b used keeps margin counts listed entries kept hs ns xs khs kns kxs list (Err e)
        → ReadingsRight tk sm fs rs ls gs n b used keeps margin decoded use_final listed max entries kept o o (Err e)
    unfolding read_readings
    read_full {max = max} {decoded} {o} m t is =
        subst (λ (x : Reason). ReadingsRight tk sm fs rs ls gs n b used keeps margin decoded use_final listed max entries kept o o (Err x)) (sym (reason_of is)) record {
          answer = λ S d l h.
              let r = readings S.g S.st use_final listed in
              let full = ap₂ (λ (a c : Option ℕ). over r.belows a || over r.kepts c) h.below h.kept_are ∙ full_of is S use_final (counts_are counted S) in
              let small = not_many listed max m t in
              readings_refused ListsFull
              (λ i. unless
              (first_of
              (refuse 6 (small i) ∷ refuse 15 (full i) ∷ refuse 11 (short (places_in o) (map (λ (g : Group). g.words) r.groups) (trace_groups S.st max r.groups) (length r.groups)) ∷ []))
              (readings_answer (map reading_of r.groups) (trace_groups S.st max r.groups)))
              refl;
        }

    module _ {k : ℕ} (items : ItemsAre tk sm fs rs ls gs n b used keeps margin counts listed entries kept hs ns xs khs kns kxs list k) where
      list_of : (S : Situation tk sm fs rs ls gs n b used keeps margin) → ListIs S counts use_final listed hs ns xs khs kns kxs list k
      list_of S = (items.is S use_final (counts_are counted S)).1

      -- every item can be read
      pub list_asks : {z : Scratch} → ListingAsks tk sm fs rs ls gs n b used keeps margin kept z → kept ≤ 0x7fff_fff0 → {route : List ℕ} → length route ≡ z.route → (decoded : ℕ) → ListAsks (view tk sm fs rs ls ns khs kns kxs b used decoded counts) list k route
      list_asks asks m e decoded =
          let st = asks.stores in
          let S = st.situation in
          let L = list_of S in
          let tok = st.tokens in
          let sums = st.sums in
          let fins = st.finals in
          let few = st.few in
          let wide = asks.wide.route in
          record {
            few = let a = items.few in omega arith;
            long = items.long;
            items = λ i l.
                let h = L.each i l in
                record { side = st.side; own = λ q. let d = (h.own q).0 in record { tokens = omega arith; sums = omega arith; finals = omega arith }; kept = h.room };
            paths = λ i l.
                let x = item_is S L items.long i l in
                let d = x.held.0 in
                let short = x.short in
                record {
                  side = st.side;
                  walkable = st.walkable;
                  inside = omega arith;
                  low = (link_is S counts L.decoded x).low;
                  routed = record { h = S.h; used = used; hs = hs; xs = xs; bs = L.bs; decoded = L.decoded; low = x.low; nexts = L.nexts; room = omega arith };
                };
            sums = λ i l. let d = (item_is S L items.long i l).held.0 in omega arith;
            even = λ i l. even_is S counts L.decoded (item_is S L items.long i l) decoded;
          }

      -- the list, or slices that are too short for it
      pub read_right : {z : Scratch} → ListingAsks tk sm fs rs ls gs n b used keeps margin kept z → {max decoded : ℕ} → listed ≤ 64 → max ≤ 64 → {o o' : Outputs} {r : Result ℕ Reason} → ListWritten (view tk sm fs rs ls ns khs kns kxs b used decoded counts) max list k o o' r
          → ReadingsRight tk sm fs rs ls gs n b used keeps margin decoded use_final listed max entries kept o o' r
      read_right asks {max} {decoded} m t {o} {o'} (no_room e q) =
          record { answer = λ S d l h. readings_refused TooShort (answer_is S (list_of S) items.long decoded max d l h o (not_many listed max m t) (items.is S use_final (counts_are counted S)).0 e) q }
      read_right asks {max} {decoded} m t {o} {o'} (are_written e f) =
          record {
            answer = λ S d l h. readings_are_listed S (list_of S) items.long decoded max f (answer_is S (list_of S) items.long decoded max d l h o (not_many listed max m t) (items.is S use_final (counts_are counted S)).0 e);
          }
