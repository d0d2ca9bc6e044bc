-- How many records are live. Where each record's number is on one of the paths, as after a compaction, it is as many as there are: so 13 is exact.
use Rattle.std.specs.Prelude.{◌≡◌, ◌⊎◌, Bool, ◌&&◌, length}
use Rattle.std.proofs.Math.Path.{refl, sym, ap}
use Rattle.std.proofs.Common.{◌∙◌, subst, arith, eqb-true, eq-eqb, ne_eqb, lt-ltb, le-ltb}
use Rattle.std.proofs.Math.Logic.{inl, inr}
use Prim.Native.Nat.{ℕ, zero, suc, ◌+◌, ◌-◌, ◌≤◌, ◌<◌}
use Rattle.std.proofs.Math.Bool.{true, false, not}
use mathlib.Core.List.Memᴰ
use mathlib.Core.List.Memᴰ.{head as here}
use mathlib.Core.List.Memᴰ.{tail as there}
use mathlib.Core.List.{List, [], ◌∷◌}
use Rattle.std.proofs.Math.Dec.{eqb}
use Rattle.lists.specs.Tests.{case, lt_or_le, never}
use Rattle.lists.specs.Lists.{◌∈◌, firsts}
use Rattle.lists.specs.Members.{firsts_from}
use Rattle.lists.specs.Firsts.{Apart, firsts_are}
use Rattle.lists.specs.Count.{Nodup, fewer}
use Rattle.model.specs.Path.{Step, Path, arc_onto, is_link, word, records_of, records, live, full_at}
use Rattle.records.specs.History.{History, link_onto, tag, history_of, history_link}
use Rattle.records.specs.Layout.{Store, rec_at, is_link_rec}
use Rattle.records.specs.Stands.{Stands, put, put_same, put_other, tag_top}
use Rattle.compaction.specs.Marks.{Reach, from_root, through_prev, through_kept}
use Rattle.compaction.specs.Numbers.{numbers, records_are, of_paths, to_paths, none_on, top_split, top_own, top_prev, top_kept}

-- the model's number of record r
abbrev pub own_number : (h : ℕ → History) → (r : ℕ) → ℕ
own_number h r = tag (h r) - 1

-- each path is the history of one of the first n records, or of none
abbrev pub Known : (h : ℕ → History) → (n : ℕ) → List Path → Type 0
Known h n ps = (p : Path) → p ∈ ps → (r : ℕ) × (r ≤ n) × (h r ≡ history_of p)

-- each of the first n records is on one of the paths
abbrev pub AllLive : (h : ℕ → History) → (n : ℕ) → List Path → Type 0
AllLive h n ps = (r : ℕ) → 0 < r → r ≤ n → own_number h r ∈ records_of ps

-- each root stands for one of the paths
abbrev pub Covers : (R : ℕ → Type 0) → (h : ℕ → History) → List Path → Type 0
Covers R h ps = (r : ℕ) → R r → (p : Path) × (p ∈ ps) × (h r ≡ history_of p)

-- Either k more records have places, or every record is live.
abbrev pub Tight : (k cap : ℕ) → (h : ℕ → History) → (n : ℕ) → List Path → Type 0
Tight k cap h n ps = (n + k ≤ cap) ⊎ AllLive h n ps

-- ---- the numbers of the first n records

numbers_to : (h : ℕ → History) → ℕ → List ℕ
numbers_to h zero = []
numbers_to h (suc k) = own_number h (suc k) ∷ numbers_to h k

to_length : (h : ℕ → History) (n : ℕ) → length (numbers_to h n) ≡ n
unfolding numbers_to
to_length h zero = refl
to_length h (suc n) = ap suc (to_length h n)

in_to : (h : ℕ → History) (n r : ℕ) → 0 < r → r ≤ n → own_number h r ∈ numbers_to h n
unfolding numbers_to
in_to h zero r a l = absurd (omega arith)
in_to h (suc n) r a l = case (lt_or_le n r) (λ b. here (ap (own_number h) (omega arith))) (λ b. there (in_to h n r a b))

of_to : (h : ℕ → History) (n z : ℕ) → z ∈ numbers_to h n → (r : ℕ) × (0 < r) × (r ≤ n) × (z ≡ own_number h r)
unfolding numbers_to
of_to h zero z m = elim m [ ]
of_to h (suc n) z (here e) = (suc n, omega arith, omega arith, e)
of_to h (suc n) z (there m) = let (r, a, b, e) = of_to h n z m in (r, a, omega arith, e)

-- ---- `firsts` of numbers

apart_nodup : (xs : List ℕ) → Apart eqb xs → Nodup xs
apart_nodup [] a = tt
apart_nodup (x ∷ xs) a = (λ m. never (sym (a.0 x m) ∙ eq-eqb x x refl), apart_nodup xs a.1)

in_firsts : (xs : List ℕ) (z : ℕ) → z ∈ xs → z ∈ firsts eqb [] xs
in_firsts xs z m =
    case ((firsts_are eqb [] xs).each z m) (λ l. absurd (Memᴰ.not-nil l.in_list))
    (λ l. Memᴰ.cast (case l.like (λ e. e) (eqb-true z l.one)) l.in_list)

module _ (s : Store) (n : ℕ) (h : ℕ → History) (ok : Stands s n h) where
  number_is : (k : ℕ) (l : k < n) → (ok.each k l).number ≡ own_number h (suc k)
  number_is k l =
      let a = ok.each k l in
      let r = rec_at s k in
      let e : tag (h (suc k)) ≡ suc a.number = ap tag a.is ∙ tag_top r a.number (h r.prev) (h r.kept) in
      omega arith

  own_on : (k : ℕ) → k < n → own_number h (suc k) ∈ numbers (h (suc k))
  own_on k l =
      let a = ok.each k l in
      let r = rec_at s k in
      Memᴰ.cast (sym (number_is k l)) (subst (λ (x : History). a.number ∈ numbers x) (sym a.is) (top_own (is_link_rec r) r a.number (h r.prev) (h r.kept)))

  -- every number on a record's history is a record's
  owned : (b r : ℕ) → r ≤ b → r ≤ n → (z : ℕ) → z ∈ numbers (h r) → z ∈ numbers_to h n
  owned zero zero a l z m = absurd (none_on z (subst (λ (x : History). z ∈ numbers x) ok.none m))
  owned zero (suc k) a l z m = absurd (omega arith)
  owned (suc b) zero a l z m = absurd (none_on z (subst (λ (x : History). z ∈ numbers x) ok.none m))
  owned (suc b) (suc k) a l z m =
      let o = ok.each k l in
      let r = rec_at s k in
      let pl = o.prev_low in
      let kl = o.kept_low in
      case (top_split (is_link_rec r) r o.number (h r.prev) (h r.kept) z (subst (λ (x : History). z ∈ numbers x) o.is m))
      (λ e. Memᴰ.cast (e ∙ number_is k l) (in_to h n (suc k) (omega arith) l))
      (λ u. case u (owned b r.prev (omega arith) (omega arith) z) (owned b r.kept (omega arith) (omega arith) z))

  nodup_to : (m : ℕ) → m ≤ n → Nodup (numbers_to h m)
  unfolding numbers_to
  nodup_to zero l = tt
  nodup_to (suc m) l = (
    λ i.
        let (r, a, b, e) = of_to h m (own_number h (suc m)) i in
        omega (arith, ok.ascends 0 r a (omega arith), ok.ascends r (suc m) (omega arith) l),
    nodup_to m (omega arith),
  )

  -- ---- as many as are live

  module _ (ps : List Path) (known : Known h n ps) where
    of_live : (z : ℕ) → z ∈ firsts eqb [] (records_of ps) → z ∈ numbers_to h n
    of_live z m =
        let (p, i, k) = of_paths ps z (firsts_from eqb [] (records_of ps) z m) in
        let (r, l, e) = known p i in
        owned r r (omega arith) l z (subst (λ (x : History). z ∈ numbers x) (sym e) (subst (λ (l : List ℕ). z ∈ l) (records_are p) k))

    pub live_le : live ps ≤ n
    unfolding live
    live_le = omega (arith, fewer (firsts eqb [] (records_of ps)) (numbers_to h n) (apart_nodup (firsts eqb [] (records_of ps)) (firsts_are eqb [] (records_of ps)).apart) of_live, to_length h n)

    pub live_is : AllLive h n ps → live ps ≡ n
    unfolding live
    live_is all =
        let up : (z : ℕ) → z ∈ numbers_to h n → z ∈ firsts eqb [] (records_of ps) = λ z m. (let (r, a, b, e) = of_to h n z m in in_firsts (records_of ps) z (Memᴰ.cast e (all r a b))) in
        omega (arith, live_le, fewer (numbers_to h n) (firsts eqb [] (records_of ps)) (nodup_to n (omega arith)) up, to_length h n)

    -- 13 is refused just where the store has no further place
    pub full_is : (cap : ℕ) → n ≤ cap → Tight 1 cap h n ps → full_at cap ps ≡ eqb n cap
    unfolding full_at
    full_is cap l t =
        case t (λ a. ap not (lt-ltb (live ps) cap (omega (arith, live_le))) ∙ sym (ne_eqb n cap (λ e. omega arith)))
        (λ all.
        let e = live_is all in
        case (lt_or_le n cap) (λ a. ap not (lt-ltb (live ps) cap (omega arith)) ∙ sym (ne_eqb n cap (λ d. omega arith)))
        (λ a. ap not (le-ltb (live ps) cap (omega arith)) ∙ sym (eq-eqb n cap (omega arith))))

  -- ---- what is reached from the roots is live

  module _ (R : ℕ → Type 0) (ps : List Path) (covers : Covers R h ps) where
    reached_on : (r : ℕ) → Reach s.records n R r → (z : ℕ) → z ∈ numbers (h r) → z ∈ records_of ps
    unfolding rec_at
    reached_on r (from_root w) z m =
        let (p, i, e) = covers r w in
        to_paths ps p i z (subst (λ (l : List ℕ). z ∈ l) (sym (records_are p)) (subst (λ (x : History). z ∈ numbers x) e m))
    reached_on r (through_prev k l t) z m =
        let a = ok.each k l in
        let r = rec_at s k in
        reached_on (suc k) t z (subst (λ (x : History). z ∈ numbers x) (sym a.is) (top_prev (is_link_rec r) r a.number (h r.prev) (h r.kept) z m))
    reached_on r (through_kept k l t) z m =
        let a = ok.each k l in
        let r = rec_at s k in
        reached_on (suc k) t z (subst (λ (x : History). z ∈ numbers x) (sym a.is) (top_kept (is_link_rec r) r a.number (h r.prev) (h r.kept) z (λ e. ap h (a.alone e) ∙ ok.none) m))

    pub reached_live : (r : ℕ) → 0 < r → r ≤ n → Reach s.records n R r → own_number h r ∈ records_of ps
    reached_live zero a l t = absurd (omega arith)
    reached_live (suc k) a l t = reached_on (suc k) t (own_number h (suc k)) (own_on k l)

-- ---- one more record

module _ (h : ℕ → History) (n : ℕ) (v : History) where
  pub known_put : (ps : List Path) → Known h n ps → Known (put h (suc n) v) (suc n) ps
  known_put ps known p i = let (r, l, e) = known p i in (r, omega arith, put_other h (suc n) v r (λ e. omega arith) ∙ e)

  -- its number is on the paths, beside all that was
  pub live_put : (m : ℕ) → tag v ≡ suc m → (ps qs : List Path) → ((z : ℕ) → z ∈ records_of ps → z ∈ records_of qs) → m ∈ records_of qs → AllLive h n ps → AllLive (put h (suc n) v) (suc n) qs
  live_put m t ps qs more own all r a l =
      case (lt_or_le n r)
      (λ b.
      let e : put h (suc n) v r ≡ v = ap (put h (suc n) v) (omega arith) ∙ put_same h (suc n) v in
      Memᴰ.cast (let d = ap tag e in omega arith) own)
      (λ b. Memᴰ.cast (ap (λ (x : History). tag x - 1) (put_other h (suc n) v r (λ e. omega arith))) (more (own_number h r) (all r a b)))

-- The path in hand gets an arc.
module _ (h : ℕ → History) (n : ℕ) (s : Step) (p : Path) (rest : List Path) where
  records_more : (b : Bool) → (is_link s && not s.beside) ≡ b → (z : ℕ) → z ∈ records_of (p ∷ rest) → z ∈ records_of (arc_onto s p ∷ rest)
  unfolding records
  records_more true e z m = rw e (there m)
  records_more false e z m = rw e m

  -- one with a record
  module _ (link : is_link s ≡ true) (plain : s.beside ≡ false) where
    records_own : s.number ∈ records_of (arc_onto s p ∷ rest)
    unfolding records
    records_own = rw (link, plain) (here refl)

    abbrev newest : (prev : ℕ) → History
    newest prev = link_onto s.number s.frame (word s) s.starts (h prev)

    pub known_link : (prev : ℕ) → h prev ≡ history_of p → Known h n rest → Known (put h (suc n) (newest prev)) (suc n) (arc_onto s p ∷ rest)
    known_link prev e known q (here d) = (suc n, omega arith, put_same h (suc n) (newest prev) ∙ ap (link_onto s.number s.frame (word s) s.starts) e ∙ sym (history_link s p link plain) ∙ ap history_of (sym d))
    known_link prev e known q (there i) = known_put h n (newest prev) rest known q i

    pub tight_link : (k cap prev : ℕ) → Tight (suc k) cap h n (p ∷ rest) → Tight k cap (put h (suc n) (newest prev)) (suc n) (arc_onto s p ∷ rest)
    unfolding tag
    tight_link k cap prev t =
        case t (λ a. inl (omega arith)) (λ all. inr (live_put h n (newest prev) s.number refl (p ∷ rest) (arc_onto s p ∷ rest) (records_more (is_link s && not s.beside) refl) records_own all))

  -- one with none
  module _ (quiet : (is_link s && not s.beside) ≡ false) where
    pub known_quiet : Known h n (p ∷ rest) → Known h n (arc_onto s p ∷ rest)
    unfolding history_of
    known_quiet known q (here d) = let (r, l, e) = known p (here refl) in (r, l, e ∙ sym (ap history_of d ∙ rw quiet))
    known_quiet known q (there i) = known q (there i)

    pub tight_quiet : (k cap : ℕ) → Tight k cap h n (p ∷ rest) → Tight k cap h n (arc_onto s p ∷ rest)
    tight_quiet k cap t = case t inl (λ all. inr (λ r a l. records_more false quiet (own_number h r) (all r a l)))

pub tight_less : (k cap : ℕ) (h : ℕ → History) (n : ℕ) (ps : List Path) → Tight (suc k) cap h n ps → Tight k cap h n ps
tight_less k cap h n ps t = case t (λ a. inl (omega arith)) inr
