-- What is written is the definition's answer. Assumes nothing.
use Rattle.std.specs.Prelude.{◌≡◌, refl, ℕ, suc, ◌+◌, ◌/◌, ◌≤◌, ◌<◌, Bool, true, false, ◌||◌, ℤ, length, get_or, take, drop, Float, Ok, Err}
use Rattle.std.proofs.Math.Path.{sym, ap}
use Rattle.std.proofs.Common.{◌∙◌, ap₂, subst, arith, div-add-mod', zero-add, length-append, drop_at, length-take-le, get_or-take, ltb-false, lt-ltb, le-ltb, ne_eqb}
use mathlib.Core.List.{List, [], ◌∷◌, ◌++◌, map}
use Rattle.std.proofs.Math.Dec.{ltb}
use Rattle.std.proofs.lemmas.List.Edits.{sets, sets-eq}
use Rattle.lists.specs.Tests.{case, lt_or_le, or_neither}
use Rattle.lists.specs.Lists.{◌∈◌}
use Rattle.lists.specs.Members.{at_member}
use Rattle.model.specs.Basics.{refuse, first_of}
use Rattle.model.specs.Graph.{Graph}
use Rattle.model.specs.Path.{Path}
use Rattle.model.specs.Passes.{State}
use Rattle.model.specs.Reads.{Traced as Told, alternatives}
use Rattle.model.specs.Calls.{paths_answer, short, words_of, unless, read_alternatives}
use Rattle.tokens.specs.Layout.{held_at, place_in}
use Rattle.records.specs.History.{History}
use Rattle.records.specs.Layout.{store}
use Rattle.records.specs.Stands.{Stands}
use Rattle.joins.specs.Walk.{Chains}
use Rattle.stores.specs.Lent.{Used}
use Rattle.stores.specs.Shown.{Is}
use Rattle.stores.specs.Rep.{lent, Finished}
use Rattle.stores.specs.Tables.{active_at}
use Rattle.traceback.specs.declared.Size.{Size}
use Rattle.traceback.specs.Table.{FinalsCount}
use Rattle.traceback.specs.Trail.{Trail, no_trail}
use Rattle.traceback.specs.Chain.{trail_from, SizeIs}
use Rattle.traceback.specs.Traced.{Routed, trail_is}
use Rattle.traceback.specs.Write.{flat}
use Rattle.traceback.specs.Right.{parts, segments_in, ReadAsks}
use Rattle.traceback.specs.Answers.{told_by, measured, told_written}
use Rattle.traceback.specs.Best.{walkable_of}
use Rattle.ranking.specs.Ranked.{RankAsks, RankedIs}
use Rattle.groups.specs.Firsts.{link_at, dropped, StatesAsk}
use Rattle.readings.specs.Paths.{cost_in, trail_at, tolds_of, lesser_of, sizes, too_short, FillAsks, TotalIs, Outputs, places_in, Plain, Plains, WriteAsks}
use Rattle.readings.specs.Fronts.{flat-length}
use Rattle.readings.specs.Back.{plains_even}
use Rattle.readings.specs.Writing.{many_are}
use Rattle.readings.specs.Right.{AlternativesAsk, StatesListed, Filled, ListedIs, listed_refused, listed_paths, AlternativesRight, Scratch, ScratchLeft}
use Rattle.readings.specs.Grouping.{link_shown}
use Rattle.refusals.specs.declared.Reason.TheVariants.{BadSetting, TooShort}

-- ---- a path that is read as it was written

sets_same : {A : Type 0} (vs rest : List A) → sets (vs ++ rest) 0 vs ≡ vs ++ rest
sets_same {A} vs rest = sets-eq vs (vs ++ rest) 0 (let z = length-append vs rest in omega arith) ∙ go (vs ++ rest) refl ∙ ap (λ (x : List A). vs ++ x) (drop_at vs rest (length vs) refl)
  where
    go : (l : List A) → l ≡ vs ++ rest → take 0 l ++ vs ++ drop (0 + length vs) l ≡ vs ++ drop (length vs) (vs ++ rest)
    go [] e = ap₂ (λ (k : ℕ) (x : List A). vs ++ drop k x) (zero-add (length vs)) e
    go (y ∷ l) e = ap₂ (λ (k : ℕ) (x : List A). vs ++ drop k x) (zero-add (length vs)) e

module _ (rs : List ℕ) (ls : List ℤ) (gs : List Float) (route : List ℕ) (used n link : ℕ) (z : Size) (size : SizeIs (trail_from rs ls route n link no_trail) used z) (h : ℕ → History) (ok : Stands (store rs ls gs) used h) (routed : Routed used route) (p : Path) (i : Is h used link p) (c : Float) where
  abbrev trail : Trail
  trail = trail_from rs ls route n link no_trail

  even_of : length trail.frames ≡ length trail.words
  even_of =
      let e = trail_is rs ls gs route n used h ok routed link p c i in
      let m = measured rs ls route used n link z size (parts [] [] []) gs h ok routed p c i in
      sym (ap (λ (t : Told). length t.word_frames) e) ∙ sym m.1 ∙ size.words

  back_of : (rest : List ℕ) → segments_in (length trail.segments) (flat trail.segments ++ rest) ≡ trail.segments
  back_of rest =
      let e = trail_is rs ls gs route n used h ok routed link p c i in
      let S = flat trail.segments ++ rest in
      let w =
      told_written rs ls route used n link z size (parts trail.words trail.frames S) {m' = parts (sets trail.words 0 trail.words) (sets trail.frames 0 trail.frames) (sets S 0 (flat trail.segments))}
      (record {
        words = let y = size.words in omega arith;
        frames = let y = size.words in let x = even_of in omega arith;
        segments = let y = size.segments in let x = flat-length trail.segments in let v = length-append (flat trail.segments) rest in omega arith;
      })
      (record { words = refl; frames = refl; segments = refl }) gs h ok routed p c i in
      ap₂ segments_in (sym size.segments) (sym (sets_same (flat trail.segments) rest)) ∙ ap (λ (t : Told). t.phones) (w ∙ e)

  pub plain_of : Plain (told_by trail c)
  plain_of = record { as_many = even_of; back = back_of }

plains_of : (f : ℕ → Told) (xs : List ℕ) → ((i : ℕ) → i < length xs → Plain (f (get_or xs i 0))) → Plains (map f xs)
plains_of f [] p = tt
plains_of f (x ∷ xs) p = (p 0 (omega arith), plains_of f xs (λ i l. p (suc i) (omega arith)))

-- ---- what the steps ask

module _ {tk : List ℕ} {sm fs : List Float} {rs : List ℕ} {ls : List ℤ} {n b used : ℕ} {keys places order : List ℕ} (asks : AlternativesAsk tk sm fs rs ls n b used keys places order) where
  abbrev read : ReadAsks tk sm fs rs ls n b used
  read = asks.read

  low_at : (s : ℕ) → s < n → (held_at tk (place_in b s) ≡ 0 → ⊥) → link_at tk b s ≤ used
  low_at s l d = (link_shown read.finished.shown s l d).low

  pub rank_asks : (counts : Bool) → RankAsks tk sm fs b n counts keys order
  rank_asks counts = record { side = read.side; tokens = read.tokens; sums = read.sums; finals = read.finals; keys_long = asks.keys_long; order_long = asks.order_long; known = asks.known counts }

  pub chains_are : Chains rs ls used
  chains_are = let w = walkable_of read in record { records = w.records; labels = w.labels; prev_low = w.prev_low }

  pub states_ask : {counts : Bool} {order' : List ℕ} {all : ℕ} → RankedIs tk sm fs b n counts order' all → length order' ≡ length order → StatesAsk tk rs ls b used order' all
  states_ask {order' = order'} {all} r e =
      record {
        side = read.side;
        chains = chains_are;
        long = let x = r.few in let y = asks.order_long in omega arith;
        few = let x = r.few in let y = asks.few in omega arith;
        each = λ i l.
            let d =
            r.each (get_or order' i 0)
            (subst (λ (s : ℕ). s ∈ take all order') (get_or-take all order' i 0 l) (at_member (take all order') i 0 (let x = r.few in let y = asks.order_long in let z = length-take-le all order' (omega arith) in omega arith))) in
            record { inside = let x = d.0 in let y = read.tokens in omega arith; low = low_at (get_or order' i 0) d.0 d.1; named = ne_eqb (get_or order' i 0) dropped (λ q. let x = d.0 in let y = asks.few in omega arith) };
      }

  module _ {counts : Bool} {max : ℕ} {order' : List ℕ} {k : ℕ} (l : StatesListed tk sm fs rs ls n b used counts max order' k) (few : max ≤ 64) where
    pub fill_asks : FillAsks tk rs ls b used order' k
    fill_asks =
        record {
          few = let x = l.few in omega arith;
          long = l.long;
          each = λ i q. let d = l.each i q in record { side = read.side; walkable = walkable_of read; inside = let x = d.0 in let y = read.tokens in omega arith; low = low_at (get_or order' i 0) d.0 d.1 };
        }

    module _ {decoded : ℕ} {total : Size} (t : TotalIs tk rs ls b used decoded order' k total) (o : Outputs) where
      abbrev told : ℕ → Told
      told s = told_by (trail_at tk rs ls b decoded s) (cost_in sm fs b counts s)

      abbrev told_all : List Told
      told_all = tolds_of tk rs ls b decoded (cost_in sm fs b counts) (take k order')

      plain_at : (i : ℕ) → i < k → Plain (told (get_or order' i 0))
      plain_at i q =
          let F = read.finished in
          let d = l.each i q in
          let z = t.sized i q in
          plain_of rs ls read.gaps [] used decoded (link_at tk b (get_or order' i 0)) z.0 z.1 F.h F.stands (λ x k. elim k [ ]) (active_at F.shown (get_or order' i 0) d.0 d.1).token.path (link_shown F.shown (get_or order' i 0) d.0 d.1) (cost_in sm fs b counts (get_or order' i 0))

      plain_all : Plains told_all
      plain_all =
          plains_of told (take k order')
          (λ i q. let y = length-take-le k order' l.long in let x : i < k = omega arith in subst (λ (s : ℕ). Plain (told s)) (sym (get_or-take k order' i 0 x)) (plain_at i x))

      many : length told_all ≡ k
      many = many_are told k order' l.long

      or_four : (a c d e : Bool) → (((a || c) || d) || e) ≡ (a || (c || (d || e)))
      or_four true c d e = refl
      or_four false true d e = refl
      or_four false false true e = refl
      or_four false false false e = refl

      short_is : short (places_in o) (words_of told_all) told_all (length told_all) ≡ too_short total k (places_in o)
      unfolding short
      short_is =
          let p = places_in o in
          let x = t.words (cost_in sm fs b counts) in
          let y = t.segments (cost_in sm fs b counts) in
          let e = plains_even told_all plain_all in
          (λ i. ((ltb p.words (sym x i) || ltb p.frames ((e ∙ sym x) i)) || ltb p.segments (sym y i)) || ltb p.entries (many i))
          ∙ or_four (ltb p.words total.words) (ltb p.frames total.words) (ltb p.segments total.segments) (ltb p.entries k)

      lesser_below : (j x y : ℕ) → j ≤ lesser_of x y → (j ≤ x) × (j ≤ y)
      lesser_below j x y h = case (lt_or_le y x) (λ q. let z = rw (lt-ltb y x q) at h in (omega arith, omega arith)) (λ q. let z = rw (le-ltb y x q) at h in (omega arith, omega arith))

      pub write_asks : too_short total k (places_in o) ≡ false → WriteAsks tk sm fs rs ls b used decoded counts order' k o
      write_asks e =
          let p = places_in o in
          let a = or_neither (ltb p.words total.words) (ltb p.frames total.words || (ltb p.segments total.segments || ltb p.entries k)) e in
          let c = or_neither (ltb p.frames total.words) (ltb p.segments total.segments || ltb p.entries k) a.1 in
          let d = or_neither (ltb p.segments total.segments) (ltb p.entries k) c.1 in
          let aw = ltb-false p.words total.words a.0 in
          let cf = ltb-false p.frames total.words c.0 in
          let ds = ltb-false p.segments total.segments d.0 in
          let dk = lesser_below k (length o.ends / 2) (length o.costs) (ltb-false p.entries k d.1) in
          let x = t.words (cost_in sm fs b counts) in
          let y = t.segments (cost_in sm fs b counts) in
          let v = plains_even told_all plain_all in
          let m3 = div-add-mod' (length o.segments) 3 in
          let m2 = div-add-mod' (length o.ends) 2 in
          let mm = many in
          let lf = l.few in
          record {
            fill = fill_asks;
            sums = λ i q. let w = (l.each i q).0 in let u = read.sums in omega arith;
            finals = λ i q. let w = (l.each i q).0 in let u = read.finals in omega arith;
            even = λ i q. (plain_at i q).as_many;
            few = (let w = t.few.0 in omega arith, let w = t.few.1 in omega arith);
            room = record { words = omega arith; frames = omega arith; segments = omega arith; ends = let w = dk.0 in omega arith; costs = let w = dk.1 in omega arith };
          }

      module _ {use_final : Bool} (counted : FinalsCount tk fs b n use_final counts) where
        answer_is : (g : Graph) → g.finals ≡ fs → (gs : List Float) (st : State) → st.frames ≡ decoded → Finished b n (lent tk sm rs ls gs) used st.table
            → read_alternatives g st use_final max (places_in o) ≡ unless (first_of (refuse 6 (ltb 64 max) ∷ refuse 11 (too_short total k (places_in o)) ∷ [])) (paths_answer told_all)
        unfolding read_alternatives
        answer_is g q gs st u F =
            let e : alternatives g st use_final max ≡ told_all =
            l.is g q gs F.h F.stands st F.shown use_final (counted.is sm g q F.h used st F.shown) ∙ ap (λ (d : ℕ). tolds_of tk rs ls b d (cost_in sm fs b counts) (take k order')) u in
            ap (λ (ps : List Told). unless (first_of (refuse 6 (ltb 64 max) ∷ refuse 11 (short (places_in o) (words_of ps) ps (length ps)) ∷ [])) (paths_answer ps)) e
            ∙ ap (λ (x : Bool). unless (first_of (refuse 6 (ltb 64 max) ∷ refuse 11 x ∷ [])) (paths_answer told_all)) short_is

        answer_by : (x : Bool) → too_short total k (places_in o) ≡ x → (g : Graph) → g.finals ≡ fs → (gs : List Float) (st : State) → st.frames ≡ decoded → Finished b n (lent tk sm rs ls gs) used st.table
            → read_alternatives g st use_final max (places_in o) ≡ unless (first_of (refuse 6 false ∷ refuse 11 x ∷ [])) (paths_answer told_all)
        answer_by x e g q gs st u F = answer_is g q gs st u F ∙ ap₂ (λ (y z : Bool). unless (first_of (refuse 6 y ∷ refuse 11 z ∷ [])) (paths_answer told_all)) (le-ltb 64 max few) e

        pub listed_short : too_short total k (places_in o) ≡ true → AlternativesRight tk sm fs rs ls n b used decoded use_final max o o (Err TooShort)
        listed_short e = record { answer = λ g q gs st u F. listed_refused TooShort (answer_by true e g q gs st u F) refl }

        pub listed_written : {o' : Outputs} → too_short total k (places_in o) ≡ false → Filled told_all o o' → AlternativesRight tk sm fs rs ls n b used decoded use_final max o o' (Ok k)
        listed_written {o'} e f =
            record { answer = λ g q gs st u F. subst (λ (j : ℕ). ListedIs (read_alternatives g st use_final max (places_in o)) o o' (Ok j)) many (listed_paths told_all (answer_by false e g q gs st u F) plain_all f) }

pub listed_many : {tk : List ℕ} {sm fs : List Float} {rs : List ℕ} {ls : List ℤ} {n b used decoded : ℕ} {use_final : Bool} {max : ℕ} {o : Outputs} → 64 < max → AlternativesRight tk sm fs rs ls n b used decoded use_final max o o (Err BadSetting)
unfolding read_alternatives
listed_many {max = max} {o} h = record { answer = λ g q gs st u F. listed_refused BadSetting (rw (lt-ltb 64 max h)) refl }

-- what the test said, with the entries counted
pub short_told : (z : Size) (k : ℕ) (o : Outputs) {e : ℕ} {r x : Bool} → r ≡ too_short z k (sizes (length o.words) (length o.frames) (length o.segments / 3) e) → e ≡ lesser_of (length o.ends / 2) (length o.costs) → r ≡ x → too_short z k (places_in o) ≡ x
short_told z k o p q b = ap (λ (n : ℕ). too_short z k (sizes (length o.words) (length o.frames) (length o.segments / 3) n)) (sym q) ∙ sym p ∙ b

-- ---- the slices that it works in

pub used_self : {max : ℕ} (w : Scratch) → Used ScratchLeft (64 < max) w w
used_self w =
    record {
      left = record { keys = record { same_length = refl }; places = record { same_length = refl }; order = record { same_length = refl }; history_keys = record { same_length = refl }; history_skips = record { same_length = refl } };
      untouched = λ h. refl;
    }

pub used_late : {max : ℕ} {w w' : Scratch} → max ≤ 64 → ScratchLeft w w' → Used ScratchLeft (64 < max) w w'
used_late few l = record { left = l; untouched = λ h. absurd (omega arith) }
