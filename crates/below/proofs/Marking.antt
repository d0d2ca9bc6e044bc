-- Marking, one mark at a time. Assumes nothing.
use mathlib.Core.Path.{◌≡◌, refl, sym, ◌∙◌, ap, subst}
use mathlib.Core.Logic.{◌⊎◌, inl, inr}
use Prim.Native.Nat.{ℕ, zero, suc, ◌+◌, ◌-◌, ◌*◌, ◌≤◌, ◌<◌}
use native.Mathlib.Omega.{arith}
use mathlib.Core.Bool.{true, false}
use mathlib.Core.List.{List}
use Rattle.std.proofs.lemmas.List.{get_or_append_left}
use lib.IntN.{ℤ}
use lib.Ieee.{Float}
use mathlib.Core.List.{◌++◌}
use lib.ListN.{length, get_or, set, replicate, drop, length-replicate, get_or-replicate}
use lib.Seq.{get_or-set_same, get_or-set_other}
use Rattle.lists.specs.Tests.{case, lt_or_le, eq_or_not, never}
use Rattle.model.specs.Basics.{◌≼◌}
use Rattle.records.specs.History.{History, tag}
use Rattle.records.specs.Layout.{Store, store, prev_at, kept_at, cost_at}
use Rattle.records.specs.Stands.{Stands}
use Rattle.histories.specs.Reading.{EndIs}
use Rattle.histories.specs.Laws.{tag_one, join_low, stands_falls}
use Rattle.traceback.specs.Chain.{Walkable}
use Rattle.below.specs.Stored.{first_at, count_at}
use Rattle.below.specs.Marks.{Cleared, MarksPut, LeadsTo, EndWanted, link_of, HeadTo, HeadsWanted, KeptTo, KeptWanted, WayTo, Wanted, WaysWanted, Reach, from_root, through_way, BelowWanted}

-- ---- what stands there, as the code reads it

pub first_none : (ls : List ℕ) (j : ℕ) → j ≡ 0 → 0 ≡ first_at ls j
first_none ls j e = ap (first_at ls) (sym e)

pub first_some : (ls : List ℕ) (j : ℕ) → (j ≡ 0 → ⊥) → get_or ls ((j - 1) * 2) 0 ≡ first_at ls j
first_some ls zero d = absurd (d refl)
first_some ls (suc k) d = ap (λ (i : ℕ). get_or ls (i * 2) 0) (omega arith)

pub count_none : (ls : List ℕ) (j : ℕ) → j ≡ 0 → 1 ≡ count_at ls j
count_none ls j e = ap (count_at ls) (sym e)

pub count_some : (ls : List ℕ) (j : ℕ) → (j ≡ 0 → ⊥) → get_or ls ((j - 1) * 2 + 1) 0 ≡ count_at ls j
count_some ls zero d = absurd (d refl)
count_some ls (suc k) d = ap (λ (i : ℕ). get_or ls (i * 2 + 1) 0) (omega arith)

-- ---- clearing

pub cleared_all : (ls ls' : List ℕ) (used : ℕ) → used * 2 ≤ length ls → ls' ≡ replicate (used * 2) 0 ++ drop (used * 2) ls → Cleared ls' used
cleared_all ls ls' used room q =
    record { first = λ k l. at (k * 2) (omega arith); count = λ k l. at (k * 2 + 1) (omega arith) }
  where
    at : (i : ℕ) → i < used * 2 → get_or ls' i 0 ≡ 0
    at i l = ap (λ (x : List ℕ). get_or x i 0) q ∙ get_or_append_left (replicate (used * 2) 0) (drop (used * 2) ls) 0 i (let z = length-replicate {A = ℕ} (used * 2) 0 in omega arith) ∙ get_or-replicate (used * 2) i 0 0 l

-- ---- marks on no join, on one, on those of two sets

pub marks_none : (P : ℕ → Type 0) (ls : List ℕ) → ((j : ℕ) → 0 < j → P j → ⊥) → MarksPut P ls ls
marks_none P ls f = record { first = λ j. refl; all = λ j l p. absurd (f j l p); only = λ j. inl refl }

module _ (ls : List ℕ) (k v : ℕ) where
  abbrev marked : List ℕ
  marked = set ls (k * 2 + 1) v

  mark_first : (j : ℕ) → first_at marked j ≡ first_at ls j
  mark_first zero = refl
  mark_first (suc i) = get_or-set_other ls (k * 2 + 1) (i * 2) v 0 (λ e. omega arith)

  mark_on : k * 2 + 2 ≤ length ls → count_at marked (suc k) ≡ v
  mark_on room = get_or-set_same ls (k * 2 + 1) v 0 (omega arith)

  mark_off : (j : ℕ) → (j ≡ suc k → ⊥) → count_at marked j ≡ count_at ls j
  mark_off zero d = refl
  mark_off (suc i) d = get_or-set_other ls (k * 2 + 1) (i * 2 + 1) v 0 (λ e. d (omega arith))

mark_one : (ls : List ℕ) (k : ℕ) → k * 2 + 2 ≤ length ls → MarksPut (λ j. j ≡ suc k) ls (set ls (k * 2 + 1) 1)
mark_one ls k room =
    record {
      first = mark_first ls k 1;
      all = λ j l e. let z = ap (count_at (set ls (k * 2 + 1) 1)) e ∙ mark_on ls k 1 room in omega arith;
      only = λ j. case (eq_or_not j (suc k)) (λ e. inr (ap (count_at (set ls (k * 2 + 1) 1)) e ∙ mark_on ls k 1 room, e)) (λ d. inl (mark_off ls k 1 j d));
    }

pub marks_one : (ls : List ℕ) (r : ℕ) → (r ≡ 0 → ⊥) → r * 2 ≤ length ls → MarksPut (λ j. j ≡ r) ls (set ls ((r - 1) * 2 + 1) 1)
marks_one ls r d room = let e : suc (r - 1) ≡ r = omega (arith, d) in rw e at (mark_one ls (r - 1) (omega (arith, d)))

-- a mark stays
pub stays : {P : ℕ → Type 0} {a b : List ℕ} → MarksPut P a b → (j : ℕ) → 0 < count_at a j → 0 < count_at b j
stays m j w = case (m.only j) (λ e. omega arith) (λ d. let z = d.0 in omega arith)

module _ (P Q : ℕ → Type 0) where
  pub marks_then : (a b c : List ℕ) → MarksPut P a b → MarksPut Q b c → MarksPut (λ j. P j ⊎ Q j) a c
  marks_then a b c m n =
      record {
        first = λ j. n.first j ∙ m.first j;
        all = λ j l s. case s (λ p. stays n j (m.all j l p)) (n.all j l);
        only = λ j. case (n.only j) (λ e. case (m.only j) (λ f. inl (e ∙ f)) (λ p. inr (e ∙ p.0, inl p.1))) (λ q. inr (q.0, inr q.1));
      }

  -- the same set, said otherwise
  pub marks_like : (a b : List ℕ) → ((j : ℕ) → P j → Q j) → ((j : ℕ) → 0 < j → Q j → P j) → MarksPut P a b → MarksPut Q a b
  marks_like a b f g m = record { first = m.first; all = λ j l q. m.all j l (g j l q); only = λ j. case (m.only j) inl (λ p. inr (p.0, f j p.1)) }

-- ---- the newest join of a history

module _ {s : Store} {n : ℕ} {h : ℕ → History} (ok : Stands s n h) where
  -- it stands no higher
  pub leads_low : (p j : ℕ) → p ≤ n → LeadsTo n h (h p) j → j ≤ p
  leads_low p j l d =
      case (lt_or_le p j) (λ a. absurd (let t = d.1 in omega (arith, ok.ascends p j a d.0, join_low (tag (h p)) (h p) (stands_falls ok p l)))) (λ a. a)

module _ {rs : List ℕ} {ls : List ℤ} {used link e : ℕ} where
  pub end_wanted : (lists lists' : List ℕ) → link ≤ used → EndIs rs ls used link true e → MarksPut (λ j. j ≡ e) lists lists' → EndWanted rs ls used link lists lists'
  end_wanted lists lists' l E m =
      record {
        is = λ gs h ok.
            marks_like (λ j. j ≡ e) (LeadsTo used h (h link)) lists lists' (λ j q. subst (LeadsTo used h (h link)) (sym q) (omega (arith, E.low), E.is gs h ok))
            (λ j a d. tag_one ok j e d.0 (omega (arith, E.low)) (d.1 ∙ sym (E.is gs h ok))) m;
      }

-- ---- the states' histories

module _ {tk rs : List ℕ} {ls : List ℤ} {b used : ℕ} {heads : List ℕ} where
  pub heads_none : (lists : List ℕ) → HeadsWanted tk rs ls b used heads 0 lists lists
  heads_none lists = record { is = λ gs h ok. marks_none (HeadTo tk b used heads 0 h) lists (λ j l d. let z = d.1 in omega arith) }

  pub heads_next : {i link : ℕ} (a c d : List ℕ) → link ≡ link_of tk b (get_or heads i 0) → HeadsWanted tk rs ls b used heads i a c → EndWanted rs ls used link c d → HeadsWanted tk rs ls b used heads (i + 1) a d
  heads_next {i} {link} a c d e m n =
      record {
        is = λ gs h ok.
            marks_like (λ j. HeadTo tk b used heads i h j ⊎ LeadsTo used h (h link) j) (HeadTo tk b used heads (i + 1) h) a d
            (λ j s. case s (λ x. (x.0, omega (arith, x.1), x.2)) (λ x. (i, omega arith, subst (λ (z : ℕ). LeadsTo used h (h z) j) e x)))
            (λ j l x. case (eq_or_not x.0 i)
            (λ q. inr (subst (λ (z : ℕ). LeadsTo used h (h z) j) (sym e) (subst (λ (z : ℕ). LeadsTo used h (h (link_of tk b (get_or heads z 0))) j) q x.2)))
            (λ u. inl (x.0, (let z = x.1 in omega (arith, u)), x.2)))
            (marks_then (HeadTo tk b used heads i h) (LeadsTo used h (h link)) a c d (m.is gs h ok) (n.is gs h ok));
      }

-- ---- the ways of a join

module _ {rs : List ℕ} {ls : List ℤ} {gs : List Float} {used : ℕ} {margin : Float} {r : ℕ} where
  pub kept_cut : (lists : List ℕ) {x : Float} → x ≡ cost_at gs (r - 1) → (x ≼ margin) ≡ false → KeptWanted rs ls gs used margin r lists lists
  kept_cut lists e f = record { is = λ h ok. marks_none (KeptTo rs gs used margin h r) lists (λ j l d. never (sym f ∙ ap (λ (z : Float). z ≼ margin) e ∙ d.0)) }

  pub kept_wanted : (a b : List ℕ) {x : Float} {link : ℕ} → x ≡ cost_at gs (r - 1) → (x ≼ margin) ≡ true → link ≡ kept_at rs (r - 1) → EndWanted rs ls used link a b → KeptWanted rs ls gs used margin r a b
  kept_wanted a b {x} {link} e f q m =
      record {
        is = λ h ok.
            marks_like (LeadsTo used h (h link)) (KeptTo rs gs used margin h r) a b
            (λ j d. (ap (λ (z : Float). z ≼ margin) (sym e) ∙ f, subst (λ (z : ℕ). LeadsTo used h (h z) j) q d))
            (λ j l d. subst (λ (z : ℕ). LeadsTo used h (h z) j) (sym q) d.1) (m.is gs h ok);
      }

  pub ways_none : (lists : List ℕ) {n : ℕ} → n ≡ count_at lists r → n ≡ 0 → WaysWanted rs ls gs used margin r lists lists
  ways_none lists e z = record { is = λ h ok. marks_none (λ j. Wanted lists r × WayTo rs gs used margin h r j) lists (λ j l d. let w = d.0.1 in omega arith) }

  pub ways_wanted : (a b c : List ℕ) {n link : ℕ} → n ≡ count_at a r → (n ≡ 0 → ⊥) → 0 < r → link ≡ prev_at rs (r - 1) → EndWanted rs ls used link a b → KeptWanted rs ls gs used margin r b c → WaysWanted rs ls gs used margin r a c
  ways_wanted a b c {n} {link} e d l q m k =
      record {
        is = λ h ok.
            marks_like (λ j. LeadsTo used h (h link) j ⊎ KeptTo rs gs used margin h r j) (λ j. Wanted a r × WayTo rs gs used margin h r j) a c
            (λ j s. ((l, omega (arith, d)), case s (λ x. inl (subst (λ (z : ℕ). LeadsTo used h (h z) j) q x)) inr))
            (λ j u x. case x.1 (λ y. inl (subst (λ (z : ℕ). LeadsTo used h (h z) j) (sym q) y)) inr)
            (marks_then (LeadsTo used h (h link)) (KeptTo rs gs used margin h r) a b c (m.is gs h ok) (k.is h ok));
      }

-- ---- what the marked ones lead to

-- Those above k have marked what they lead to.
pub record Handed (rs : List ℕ) (gs : List Float) (used : ℕ) (margin : Float) (h : ℕ → History) (lists₀ lists : List ℕ) (k : ℕ) : Type 0 where
  pub first : (j : ℕ) → first_at lists j ≡ first_at lists₀ j
  pub only : (j : ℕ) → (count_at lists j ≡ count_at lists₀ j) ⊎ ((count_at lists j ≡ 1) × Reach rs gs used margin h (Wanted lists₀) j)
  pub on : (r : ℕ) → k < r → r ≤ used → Wanted lists r → (j : ℕ) → 0 < j → WayTo rs gs used margin h r j → 0 < count_at lists j

pub record HandedOn (rs : List ℕ) (ls : List ℤ) (gs : List Float) (used : ℕ) (margin : Float) (lists₀ lists : List ℕ) (k : ℕ) : Type 0 where
  pub is : (h : ℕ → History) → Stands (store rs ls gs) used h → Handed rs gs used margin h lists₀ lists k

module _ (rs : List ℕ) (ls : List ℤ) (gs : List Float) (used : ℕ) (margin : Float) where
  pub handed_none : (lists : List ℕ) → HandedOn rs ls gs used margin lists lists used
  handed_none lists = record { is = λ h ok. record { first = λ j. refl; only = λ j. inl refl; on = λ r a b w j l s. absurd (omega arith) } }

  module _ (h : ℕ → History) (ok : Stands (store rs ls gs) used h) (walk : Walkable rs ls used) where
    -- a way leads down
    pub way_low : (r j : ℕ) → 0 < r → r ≤ used → WayTo rs gs used margin h r j → j < r
    way_low r j a l (inl d) = let p = walk.prev_low (r - 1) (omega arith) in omega (arith, leads_low ok (prev_at rs (r - 1)) j (omega arith) d)
    way_low r j a l (inr d) = let p = walk.kept_low (r - 1) (omega arith) in omega (arith, leads_low ok (kept_at rs (r - 1)) j (omega arith) d.1)

    module _ (a b c : List ℕ) (k : ℕ) (pos : 0 < k) (low : k ≤ used) (H : Handed rs gs used margin h a b k) (m : MarksPut (λ j. Wanted b k × WayTo rs gs used margin h k j) b c) where
      -- none from k on gets a mark
      above : (r : ℕ) → k ≤ r → Wanted c r → Wanted b r
      above r l w = case (m.only r) (λ e. (w.0, let z = w.1 in omega arith)) (λ d. absurd (omega (arith, way_low k r pos low d.1.1)))

      reached : (r : ℕ) → Wanted b r → Reach rs gs used margin h (Wanted a) r
      reached r w = case (H.only r) (λ e. from_root (w.0, let z = w.1 in omega arith)) (λ d. d.1)

      handed_one : Handed rs gs used margin h a c (k - 1)
      handed_one =
          record {
            first = λ j. m.first j ∙ H.first j;
            only = λ j. case (m.only j) (λ e. case (H.only j) (λ f. inl (e ∙ f)) (λ d. inr (e ∙ d.0, d.1))) (λ d. inr (d.0, through_way k pos low (reached k d.1.0) d.1.1));
            on = λ r x y w j l s.
                let v = above r (omega arith) w in
                case (eq_or_not r k) (λ e. m.all j l (subst (Wanted b) e v, subst (λ (z : ℕ). WayTo rs gs used margin h z j) e s))
                (λ d. stays m j (H.on r (omega (arith, d)) y v j l s));
          }

  pub handed_next : (a b c : List ℕ) (k : ℕ) → Walkable rs ls used → 0 < k → k ≤ used → HandedOn rs ls gs used margin a b k → WaysWanted rs ls gs used margin k b c → HandedOn rs ls gs used margin a c (k - 1)
  handed_next a b c k walk pos low H m = record { is = λ h ok. handed_one h ok walk a b c k pos low (H.is h ok) (m.is h ok) }

  module _ (h : ℕ → History) (a b : List ℕ) (H : Handed rs gs used margin h a b 0) where
    all_reached : (j : ℕ) → 0 < j → Reach rs gs used margin h (Wanted a) j → 0 < count_at b j
    all_reached j l (from_root w) = case (H.only j) (λ e. let z = w.1 in omega arith) (λ d. let z = d.0 in omega arith)
    all_reached j l (through_way r x y t s) = H.on r x y (x, all_reached r x t) j l s

  pub handed_all : (a b : List ℕ) → HandedOn rs ls gs used margin a b 0 → BelowWanted rs ls gs used margin a b
  handed_all a b H = record { is = λ h ok. record { first = (H.is h ok).first; all = all_reached h a b (H.is h ok); only = (H.is h ok).only } }
