-- Filling the lists, one join at a time. Assumes nothing.
use mathlib.Core.Path.{◌≡◌, refl, sym, ◌∙◌, ap, subst}
use mathlib.Core.Logic.{inl, inr}
use Prim.Native.Nat.{ℕ, zero, suc, ◌+◌, ◌-◌, ◌*◌, ◌^◌, ◌≤◌, ◌<◌}
use native.Mathlib.Omega.{arith}
use mathlib.Core.Bool.{Bool, true, false, not, cond}
use mathlib.Core.List.{List}
use lib.IntN.{ℤ}
use lib.Ieee.{Float}
use lib.Dec.{T}
use lib.ListN.{length, get_or, set, take}
use Rattle.std.specs.Prelude.{Option, Some, None}
use lib.Seq.{get_or-set_same, get_or-set_other, length-take-le, get_or-take}
use borrow.Author.Tests.{eq-eqb, ne_eqb}
use Rattle.lists.specs.Tests.{case, eq_or_not, never}
use Rattle.lists.specs.Lists.{◌∈◌}
use Rattle.lists.specs.Members.{at_member, member_at, map_from, map_to}
use Rattle.real32.specs.Small.{huge}
use Rattle.model.specs.Basics.{◌≺◌, ◌≼◌}
use Rattle.records.specs.History.{History}
use Rattle.records.specs.Layout.{store, cost_at}
use Rattle.records.specs.Stands.{Stands}
use Rattle.histories.specs.Reading.{join_tag}
use Rattle.traceback.specs.Chain.{Walkable}
use Rattle.entries.specs.declared.Way.{Way}
use Rattle.entries.specs.Entries.{entry_at, Room}
use Rattle.entries.specs.Ways.{WayAsks, FillAsks}
use Rattle.below.specs.Stored.{first_at, count_at, is_wanted}
use Rattle.below.specs.Filling.{was_full, BelowIs}
use Rattle.below.specs.Totals.{IsVisited, visited_root, visited_own, visited_kept, visited_only}
use Rattle.below.specs.Progress.{Progress, progress_none, progress_past, new_short, progress_put, progress_full, progress_all}
use Rattle.below.specs.Short.{Short, short_marks, short_put}
use Rattle.below.specs.Marks.{OwnReach, KeptReach, Cleared, MarksPut, link_of, head_links, HeadTo, HeadsWanted, Wanted, Reach, from_root, through_way, BelowWanted}
use Rattle.below.specs.Putting.{ListPut, OneAsks, ListFilled, OneIs, not_wanted, no_place, was_listed, ListsAsk, Fair, ListsAre}

-- ---- a list's two numbers

list_put : (ls : List ℕ) (k f n : ℕ) → k * 2 + 2 ≤ length ls → length (set ls (k * 2) f) ≡ length ls → ListPut ls (set (set ls (k * 2) f) (k * 2 + 1) n) (suc k) f n
list_put ls k f n room same =
    record {
      first = get_or-set_other (set ls (k * 2) f) (k * 2 + 1) (k * 2) n 0 (λ u. omega arith) ∙ get_or-set_same ls (k * 2) f 0 (omega arith);
      count = get_or-set_same (set ls (k * 2) f) (k * 2 + 1) n 0 (omega arith);
      firsts = firsts;
      counts = counts;
    }
  where
    firsts : (j : ℕ) → (j ≡ suc k → ⊥) → first_at (set (set ls (k * 2) f) (k * 2 + 1) n) j ≡ first_at ls j
    firsts zero d = refl
    firsts (suc j) d = get_or-set_other (set ls (k * 2) f) (k * 2 + 1) (j * 2) n 0 (λ u. omega arith) ∙ get_or-set_other ls (k * 2) (j * 2) f 0 (λ u. d (omega arith))

    counts : (j : ℕ) → (j ≡ suc k → ⊥) → count_at (set (set ls (k * 2) f) (k * 2 + 1) n) j ≡ count_at ls j
    counts zero d = refl
    counts (suc j) d = get_or-set_other (set ls (k * 2) f) (k * 2 + 1) (j * 2 + 1) n 0 (λ u. d (omega arith)) ∙ get_or-set_other ls (k * 2) (j * 2 + 1) f 0 (λ u. omega arith)

pub list_put_at : (ls : List ℕ) (r f n : ℕ) → 0 < r → r * 2 ≤ length ls → length (set ls ((r - 1) * 2) f) ≡ length ls → ListPut ls (set (set ls ((r - 1) * 2) f) ((r - 1) * 2 + 1) n) r f n
list_put_at ls r f n a room same = let e : suc (r - 1) ≡ r = omega arith in subst (λ (k : ℕ). ListPut ls (set (set ls ((r - 1) * 2) f) ((r - 1) * 2 + 1) n) k f n) e (list_put ls (r - 1) f n (omega arith) same)

-- ---- wanted

module _ (ls : List ℕ) (j : ℕ) where
  wanted_yes : 0 < count_at ls j → is_wanted ls j ≡ true
  wanted_yes l = ap not (ne_eqb (count_at ls j) 0 (λ e. omega arith))

  wanted_no : count_at ls j ≡ 0 → is_wanted ls j ≡ false
  wanted_no e = ap not (eq-eqb (count_at ls j) 0 e)

  wanted_pos : is_wanted ls j ≡ true → 0 < count_at ls j
  wanted_pos e = case (eq_or_not (count_at ls j) 0) (λ q. never (sym (wanted_no q) ∙ e)) (λ d. omega (arith, d))

-- ---- what filling one list asks

-- a way that the margin cuts has no paths
cond_low : (b : Bool) (n m : ℕ) → m ≡ cond b n 0 → m ≤ n
cond_low true n m e = omega arith
cond_low false n m e = omega arith

module _ {rs : List ℕ} {ls : List ℤ} {gs : List Float} {used : ℕ} {lists hs ns : List ℕ} {xs : List Float} {places r free : ℕ} (A : OneAsks rs ls gs used lists hs ns xs places r free) where
  way_asks : (w : Way) (e : ℕ) → e ≤ used → w.first ≡ first_at lists e → w.count ≤ count_at lists e → w.len ≤ used → WayAsks hs ns xs w
  way_asks w e u f c l =
      let b = A.short.before e u in
      let p = A.free_low in
      let q = A.few in
      let s = A.walkable.few in
      record {
        room = record {
          hashes = let z = A.room.hashes in omega arith;
          nexts = let z = A.room.nexts in omega arith;
          sums = let z = A.room.sums in omega arith;
        };
        fits = omega arith;
        lens = λ i v. let z = subst (λ (k : ℕ). (entry_at hs ns xs (k + i)).len ≤ e) (sym f) (A.short.short e u i (omega arith)) in omega arith;
      }

  pub fill_asks : {margin : Float} (own kept : Way) → OwnReach rs ls used lists r own → KeptReach rs ls gs used lists r margin kept → FillAsks hs ns xs own kept free places
  fill_asks {margin} own kept W K =
      let l = A.low in
      let a = W.low in
      let b = K.low in
      let d = K.end_low in
      let f = W.way.first in
      let g = K.way.first in
      let c = W.way.count in
      let k = cond_low (cost_at gs (r - 1) ≼ margin) (count_at lists K.way.end) kept.count K.way.count in
      let x = A.short.before W.way.end (omega arith) in
      let y = A.short.before K.way.end (omega arith) in
      record {
        room = A.room;
        few = A.few;
        begins = A.free_begins;
        free = A.free_low;
        own_way = way_asks own W.way.end (omega arith) f (omega arith) (omega arith);
        kept_way = way_asks kept K.way.end (omega arith) g k (omega arith);
        own_before = omega arith;
        kept_before = omega arith;
      }

-- ---- all of them

-- the first r records are done
pub record DoneTo (rs : List ℕ) (ls : List ℤ) (gs : List Float) (used : ℕ) (margin : Float) (cap : ℕ) (lists₀ lists hs ns : List ℕ) (xs : List Float) (places r free : ℕ) : Type 0 where
  pub begins : 0 < free
  pub low : free ≤ places + 1
  pub short : Short lists hs ns xs used free
  pub counts : (j : ℕ) → r < j → count_at lists j ≡ count_at lists₀ j
  pub is : (h : ℕ → History) (links : List ℕ) → Fair rs ls gs used margin cap lists₀ h links → Progress h used margin cap (is_wanted lists₀) lists hs ns xs places r free

module _ (rs : List ℕ) (ls : List ℤ) (gs : List Float) (used : ℕ) (margin : Float) (cap : ℕ) where
  pub done_none : (lists hs ns : List ℕ) (xs : List Float) (places : ℕ) → ListsAsk rs ls gs used margin cap lists hs ns xs places → DoneTo rs ls gs used margin cap lists lists hs ns xs places 0 1
  done_none lists hs ns xs places A =
      record {
        begins = omega arith;
        low = omega arith;
        short = short_marks lists hs ns xs used A.firsts A.counts;
        counts = λ j l. refl;
        is = λ h links F. progress_none h used margin cap (is_wanted lists) lists hs ns xs places;
      }

  module _ (lists₀ lists hs ns : List ℕ) (xs : List Float) (places r free : ℕ) (D : DoneTo rs ls gs used margin cap lists₀ lists hs ns xs places r free) (few : suc r ≤ used) (h₀ : ℕ → History) (links₀ : List ℕ) (F₀ : Fair rs ls gs used margin cap lists₀ h₀ links₀) where
    done_past : count_at lists (suc r) ≡ 0 → DoneTo rs ls gs used margin cap lists₀ lists hs ns xs places (suc r) free
    done_past e =
        record {
          begins = D.begins;
          low = D.low;
          short = D.short;
          counts = λ j l. D.counts j (omega arith);
          is = λ h links F. progress_past (D.is h links F) (wanted_no lists₀ (suc r) (sym (D.counts (suc r) (omega arith)) ∙ e));
        }

    module _ (hs' ns' : List ℕ) (xs' : List Float) {n : Option ℕ} (L : ListFilled rs ls gs used margin cap lists hs ns xs hs' ns' xs' places (suc r) free n) where
      want : is_wanted lists₀ (suc r) ≡ true
      want = wanted_yes lists₀ (suc r) (let z = L.wanted in let y = D.counts (suc r) (omega arith) in omega arith)

    done_full : (lists' hs' ns' : List ℕ) (xs' : List Float) → ListFilled rs ls gs used margin cap lists hs ns xs hs' ns' xs' places (suc r) free None → ListsAre rs ls gs used margin cap lists₀ lists' hs' ns' xs' places None
    done_full lists' hs' ns' xs' L =
        record {
          is = λ h links F.
              was_full
              (progress_full F.stands margin cap links F.links_low (is_wanted lists₀) F.only F.all (D.is h links F) few (want hs' ns' xs' L) L.own_way.way L.kept_way.way F.small L.fill refl);
          short = tt;
        }

    done_put : (lists' hs' ns' : List ℕ) (xs' : List Float) (n : ℕ) → ListFilled rs ls gs used margin cap lists hs ns xs hs' ns' xs' places (suc r) free (Some n) → ListPut lists lists' (suc r) free (n - free) → DoneTo rs ls gs used margin cap lists₀ lists' hs' ns' xs' places (suc r) n
    done_put lists' hs' ns' xs' n L P =
        record {
          begins = let z = L.fill.on in let b = D.begins in omega arith;
          low = L.fill.fits;
          short = short_put D.short lists' hs' ns' xs' (suc r) n L.fill.on L.fill.before short_new P.firsts P.counts P.first P.count;
          counts = λ j l. P.counts j (λ e. omega arith) ∙ D.counts j (omega arith);
          is = λ h links F.
              progress_put F.stands margin cap links F.links_low (is_wanted lists₀) F.only F.all (D.is h links F) few (want hs' ns' xs' L) L.own_way.way L.kept_way.way F.small L.fill n refl L.fill.fits lists'
              (λ j u. P.firsts j (λ e. omega arith)) (λ j u. P.counts j (λ e. omega arith)) P.first P.count;
        }
      where
        short_new : (e : ℕ) → free ≤ e → e < n → (entry_at hs' ns' xs' e).len ≤ suc r
        short_new = new_short F₀.stands margin cap links₀ F₀.links_low (is_wanted lists₀) F₀.only F₀.all (D.is h₀ links₀ F₀) few (want hs' ns' xs' L) L.own_way.way L.kept_way.way F₀.small L.fill n refl

    step : (lists' hs' ns' : List ℕ) (xs' : List Float) (n : ℕ) → OneIs rs ls gs used margin cap lists hs ns xs lists' hs' ns' xs' places (suc r) free (Some n) → DoneTo rs ls gs used margin cap lists₀ lists' hs' ns' xs' places (suc r) n
    step lists' hs' ns' xs' n (not_wanted e a b c d) =
        subst (λ (l : List ℕ). DoneTo rs ls gs used margin cap lists₀ l hs' ns' xs' places (suc r) free) (sym a)
        (subst (λ (l : List ℕ). DoneTo rs ls gs used margin cap lists₀ lists l ns' xs' places (suc r) free) (sym b)
        (subst (λ (l : List ℕ). DoneTo rs ls gs used margin cap lists₀ lists hs l xs' places (suc r) free) (sym c)
        (subst (λ (l : List Float). DoneTo rs ls gs used margin cap lists₀ lists hs ns l places (suc r) free) (sym d) (done_past e))))
    step lists' hs' ns' xs' n (was_listed m L P) = done_put lists' hs' ns' xs' m L P

    stop : (lists' hs' ns' : List ℕ) (xs' : List Float) → OneIs rs ls gs used margin cap lists hs ns xs lists' hs' ns' xs' places (suc r) free None → ListsAre rs ls gs used margin cap lists₀ lists' hs' ns' xs' places None
    stop lists' hs' ns' xs' (no_place L) = done_full lists' hs' ns' xs' L

    pub done_next : (lists' hs' ns' : List ℕ) (xs' : List Float) (n s : ℕ) → s ≡ suc r → OneIs rs ls gs used margin cap lists hs ns xs lists' hs' ns' xs' places s free (Some n) → DoneTo rs ls gs used margin cap lists₀ lists' hs' ns' xs' places s n
    done_next lists' hs' ns' xs' n s q O =
        subst (λ (k : ℕ). DoneTo rs ls gs used margin cap lists₀ lists' hs' ns' xs' places k n) (sym q) (step lists' hs' ns' xs' n (subst (λ (k : ℕ). OneIs rs ls gs used margin cap lists hs ns xs lists' hs' ns' xs' places k free (Some n)) q O))

    pub done_stop : (lists' hs' ns' : List ℕ) (xs' : List Float) (s : ℕ) → s ≡ suc r → OneIs rs ls gs used margin cap lists hs ns xs lists' hs' ns' xs' places s free None → ListsAre rs ls gs used margin cap lists₀ lists' hs' ns' xs' places None
    done_stop lists' hs' ns' xs' s q O = stop lists' hs' ns' xs' (subst (λ (k : ℕ). OneIs rs ls gs used margin cap lists hs ns xs lists' hs' ns' xs' places k free None) q O)

  pub done_all : (lists₀ lists hs ns : List ℕ) (xs : List Float) (places r free : ℕ) → r ≡ used → DoneTo rs ls gs used margin cap lists₀ lists hs ns xs places r free → ListsAre rs ls gs used margin cap lists₀ lists hs ns xs places (Some free)
  done_all lists₀ lists hs ns xs places r free e D =
      record {
        is = λ h links F.
            progress_all F.stands margin cap links F.links_low (is_wanted lists₀) F.only F.all (subst (λ (k : ℕ). Progress h used margin cap (is_wanted lists₀) lists hs ns xs places k free) e (D.is h links F));
        short = D.short;
      }

-- ---- from the marks to the lists

cleared_at : (ls : List ℕ) (used : ℕ) → Cleared ls used → (j : ℕ) → 0 < j → j ≤ used → (first_at ls j ≡ 0) × (count_at ls j ≡ 0)
cleared_at ls used c zero a u = absurd (omega arith)
cleared_at ls used c (suc j) a u = (c.first j u, c.count j u)

module _ (tk : List ℕ) (b : ℕ) (heads : List ℕ) (n : ℕ) (long : n ≤ length heads) where
  link_of_lem : (i : ℕ) → i < n → link_of tk b (get_or heads i 0) ∈ head_links tk b heads n
  link_of_lem i l =
      let y = length-take-le n heads long in
      subst (λ (s : ℕ). link_of tk b s ∈ head_links tk b heads n) (get_or-take n heads i 0 l) (map_to (link_of tk b) (take n heads) (get_or (take n heads) i 0) (at_member (take n heads) i 0 (omega arith)))

  link_from : (l : ℕ) → l ∈ head_links tk b heads n → (i : ℕ) × (i < n) × (l ≡ link_of tk b (get_or heads i 0))
  link_from l m =
      let (s, x, e) = map_from (link_of tk b) (take n heads) l m in
      let (i, u, q) = member_at (take n heads) s 0 x in
      let y = length-take-le n heads long in
      (i, omega arith, e ∙ ap (link_of tk b) (sym q ∙ get_or-take n heads i 0 (omega arith)))

module _ {tk rs : List ℕ} {ls : List ℤ} {gs : List Float} {b used : ℕ} {heads : List ℕ} {n : ℕ} {margin : Float} {l₁ l₂ l₃ : List ℕ} (long : n ≤ length heads) (C : Cleared l₁ used) (H : HeadsWanted tk rs ls b used heads n l₁ l₂) (B : BelowWanted rs ls gs used margin l₂ l₃) where
  module _ (h : ℕ → History) (ok : Stands (store rs ls gs) used h) where
    abbrev mh : MarksPut (HeadTo tk b used heads n h) l₁ l₂
    mh = H.is gs h ok

    abbrev mb : MarksPut (Reach rs gs used margin h (Wanted l₂)) l₂ l₃
    mb = B.is h ok

    -- no list is there yet
    pub marks_first : (j : ℕ) → 0 < j → j ≤ used → first_at l₃ j ≡ 0
    marks_first j a u = mb.first j ∙ mh.first j ∙ (cleared_at l₁ used C j a u).0

    pub marks_few : (j : ℕ) → 0 < j → j ≤ used → count_at l₃ j ≤ 1
    marks_few j a u =
        let z = (cleared_at l₁ used C j a u).1 in
        case (mb.only j) (λ e. case (mh.only j) (λ f. omega arith) (λ f. let y = f.0 in omega arith)) (λ e. let y = e.0 in omega arith)

    module _ (cap : ℕ) (low : (l : ℕ) → l ∈ head_links tk b heads n → l ≤ used) where
      root : (j : ℕ) → 0 < j → j ≤ used → 0 < count_at l₂ j → IsVisited margin cap h (head_links tk b heads n) j
      root j a u w =
          let z = (cleared_at l₁ used C j a u).1 in
          case (mh.only j) (λ f. absurd (omega arith))
          (λ f. let (i, v, x) = f.1 in visited_root ok margin cap (head_links tk b heads n) low (link_of tk b (get_or heads i 0)) j (link_of_lem tk b heads n long i v) a u x.1)

      reached : (j : ℕ) → 0 < j → j ≤ used → Reach rs gs used margin h (Wanted l₂) j → IsVisited margin cap h (head_links tk b heads n) j
      reached j a u (from_root w) = root j a u w.1
      reached j a u (through_way r x y t (inl d)) = visited_own ok margin cap (head_links tk b heads n) low r x y (reached r x y t) j a u d.1
      reached j a u (through_way r x y t (inr d)) = visited_kept ok margin cap (head_links tk b heads n) low r x y (reached r x y t) d.0 j a u d.1.1

      wanted_only : (j : ℕ) → 0 < j → j ≤ used → is_wanted l₃ j ≡ true → IsVisited margin cap h (head_links tk b heads n) j
      wanted_only j a u w = let z = wanted_pos l₃ j w in case (mb.only j) (λ e. root j a u (omega arith)) (λ e. reached j a u e.1)

      wanted_all : (j : ℕ) → 0 < j → j ≤ used → IsVisited margin cap h (head_links tk b heads n) j → is_wanted l₃ j ≡ true
      wanted_all j a u m =
          wanted_yes l₃ j
          (mb.all j a
          (visited_only ok margin cap (head_links tk b heads n) low (Reach rs gs used margin h (Wanted l₂))
          (λ l j x c v t. let (i, y, e) = link_from tk b heads n long l x in from_root (c, mh.all j c (i, y, (v, t ∙ ap (λ (k : ℕ). join_tag (h k)) e))))
          (λ r c v q j d w t. through_way r c v q (inl (w, t))) (λ r c v q k j d w t. through_way r c v q (inr (k, (w, t)))) j a u m))

  module _ (cap : ℕ) (low : (l : ℕ) → l ∈ head_links tk b heads n → l ≤ used) (small : T (margin ≺ huge)) where
    fair : (h : ℕ → History) → Stands (store rs ls gs) used h → Fair rs ls gs used margin cap l₃ h (head_links tk b heads n)
    fair h ok = record { stands = ok; links_low = low; small = small; only = wanted_only h ok cap low; all = wanted_all h ok cap low }

    pub below_is : {lists hs ns : List ℕ} {xs : List Float} {places : ℕ} {r : Option ℕ} → ListsAre rs ls gs used margin cap l₃ lists hs ns xs places r → BelowIs rs ls gs used margin cap (head_links tk b heads n) lists hs ns xs places r
    below_is L = record { is = λ h ok. L.is h (head_links tk b heads n) (fair h ok); short = L.short }

    -- what filling the lists asks
    pub lists_ask : (h : ℕ → History) → Stands (store rs ls gs) used h → Walkable rs ls used → used * 2 ≤ length gs → used * 2 ≤ length l₃ → {hs ns : List ℕ} {xs : List Float} {places : ℕ} → Room hs ns xs places → places < 2 ^ 31 - 2
        → ListsAsk rs ls gs used margin cap l₃ hs ns xs places
    lists_ask h ok walk g l room few =
        record { walkable = walk; gaps_long = g; lists_long = l; room = room; few = few; firsts = marks_first h ok; counts = marks_few h ok; h = h; links = head_links tk b heads n; fair = fair h ok }
