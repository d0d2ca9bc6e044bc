-- Laws of the layout, of looking for words, and of a way's paths. Assumes nothing.
use Rattle.std.specs.Prelude.{◌≡◌, ℕ, zero, suc, ◌+◌, ◌-◌, ◌*◌, ◌%◌, ◌^◌, ◌<◌, ◌≤◌, Bool, true, false, not, ◌&&◌, ◌||◌, ◌⊎◌, List, [], ◌∷◌, ◌++◌, map, length, get_or, ◌==◌, ◌≢◌, slice_index, slice_index_or, slice_set, refl, Float}
use Rattle.std.proofs.Common.{sym, ap, ap₂, ◌∙◌, subst, inl, inr, arith, get_or-set_same, get_or-set_other, eq-eqb, ne_eqb}
use Rattle.std.proofs.lemmas.List.Edits.{sets}
use Rattle.std.specs.Float.{nan}
use Rattle.lists.specs.Tests.{case, lt_or_le, below_more}
use Rattle.lists.specs.Lists.{any, range}
use Rattle.lists.specs.Members.{any_yes}
use Rattle.lists.specs.Parts.{in_range, range_many, range_at}
use Rattle.lists.specs.Sets.{sets_off, sets_on, sets_first}
use Rattle.model.specs.Basics.{◌≺◌, ◌⊕◌}
use Rattle.entries.specs.declared.Entry.{Entry}
use Rattle.entries.specs.declared.Way.{Way}
use Rattle.entries.specs.Entries.{no_entry, entry_in, entry_at, entries, same_key, SameKeyIs, HasKeyIs, EntryPut}
use Rattle.entries.specs.Ways.{by_way, way_entries, WithinIs, own_next}

-- ---- the layout

pub entry_none : (hs ns : List ℕ) (xs : List Float) (e : ℕ) → e ≡ 0 → no_entry ≡ entry_at hs ns xs e
unfolding entry_at
entry_none hs ns xs zero q = refl
entry_none hs ns xs (suc i) q = absurd (omega arith)

pub entry_in_lem : (hs ns : List ℕ) (xs : List Float) (e : ℕ) → 0 < e → entry_in hs ns xs (e - 1) ≡ entry_at hs ns xs e
unfolding entry_at
entry_in_lem hs ns xs zero h = absurd (omega arith)
entry_in_lem hs ns xs (suc i) h = ap (entry_in hs ns xs) (omega arith)

-- entry i put in its place
module _ (hs ns : List ℕ) (xs : List Float) (i : ℕ) (b : Entry) where
  abbrev numbers : List ℕ
  numbers = b.len ∷ b.next ∷ b.join ∷ []

  abbrev costs : List Float
  costs = b.cost ∷ b.graph ∷ []

  entry_sets : i < length hs → i * 3 + 3 ≤ length ns → i * 2 + 2 ≤ length xs → EntryPut hs ns xs (slice_set hs i b.hash) (sets ns (i * 3) numbers) (sets xs (i * 2) costs) i b
  entry_sets h n x = record { is = here_is; others = other_is }
    where
      here_is : entry_in (slice_set hs i b.hash) (sets ns (i * 3) numbers) (sets xs (i * 2) costs) i ≡ b
      here_is =
          λ k.
          record {
            hash = get_or-set_same hs i b.hash 0 h k;
            len = sets_first numbers ns (i * 3) 0 (omega arith) n k;
            cost = sets_first costs xs (i * 2) nan (omega arith) x k;
            graph = sets_on costs xs (i * 2) 1 nan (omega arith) x k;
            next = sets_on numbers ns (i * 3) 1 0 (omega arith) n k;
            join = sets_on numbers ns (i * 3) 2 0 (omega arith) n k;
          }

      other_is : (j : ℕ) → (j ≢ i) → entry_in (slice_set hs i b.hash) (sets ns (i * 3) numbers) (sets xs (i * 2) costs) j ≡ entry_in hs ns xs j
      other_is j d =
          let three : (m : ℕ) → m < 3 → (j * 3 + m < i * 3) ⊎ (i * 3 + 3 ≤ j * 3 + m) = λ m l. case (lt_or_le j i) (λ u. inl (omega arith)) (λ u. inr (omega arith)) in
          let two : (m : ℕ) → m < 2 → (j * 2 + m < i * 2) ⊎ (i * 2 + 2 ≤ j * 2 + m) = λ m l. case (lt_or_le j i) (λ u. inl (omega arith)) (λ u. inr (omega arith)) in
          λ k.
          record {
            hash = get_or-set_other hs i j b.hash 0 d k;
            len = sets_off numbers ns (i * 3) (j * 3) 0 (case (lt_or_le j i) (λ u. inl (omega arith)) (λ u. inr (omega arith))) k;
            cost = sets_off costs xs (i * 2) (j * 2) nan (case (lt_or_le j i) (λ u. inl (omega arith)) (λ u. inr (omega arith))) k;
            graph = sets_off costs xs (i * 2) (j * 2 + 1) nan (two 1 (omega arith)) k;
            next = sets_off numbers ns (i * 3) (j * 3 + 1) 0 (three 1 (omega arith)) k;
            join = sets_off numbers ns (i * 3) (j * 3 + 2) 0 (three 2 (omega arith)) k;
          }

  -- as the code writes them
  pub entry_put : i < length hs → i * 3 + 3 ≤ length ns → i * 2 + 2 ≤ length xs
      → EntryPut hs ns xs (slice_set hs i b.hash) (slice_set (slice_set (slice_set ns (i * 3) b.len) (i * 3 + 1) b.next) (i * 3 + 2) b.join) (slice_set (slice_set xs (i * 2) b.cost) (i * 2 + 1) b.graph) i b
  entry_put h n x =
      let a : suc (i * 3) ≡ i * 3 + 1 = omega arith in
      let b : suc (suc (i * 3)) ≡ i * 3 + 2 = omega arith in
      let d : suc (i * 2) ≡ i * 2 + 1 = omega arith in
      rw (← a, ← b, ← d) (entry_sets h n x)

-- lists made over a range: one more, how many, and the i-th
range_next : {A : Type 0} (f : ℕ → A) (a n : ℕ) → map f (range a (n + 1)) ≡ map f (range a n) ++ f (a + n) ∷ []
range_next {A} f a zero = ap (λ (k : ℕ). f k ∷ []) (omega arith)
range_next {A} f a (suc n) =
    ap (λ (k : ℕ). map f (range a k)) (let e : suc n + 1 ≡ suc (n + 1) = omega arith in e)
    ∙ ap (λ (l : List A). f a ∷ l) (range_next f (suc a) n ∙ ap (λ (k : ℕ). map f (range (suc a) n) ++ f k ∷ []) (omega arith))

pub entries_next : (hs ns : List ℕ) (xs : List Float) (from n : ℕ) → entries hs ns xs from (n + 1) ≡ entries hs ns xs from n ++ entry_at hs ns xs (from + n) ∷ []
entries_next hs ns xs = range_next (entry_at hs ns xs)

pub entries_many : (hs ns : List ℕ) (xs : List Float) (from n : ℕ) → length (entries hs ns xs from n) ≡ n
entries_many hs ns xs = range_many (entry_at hs ns xs)

-- ---- looking for words

-- the test that the code makes
key_is : (hs ns : List ℕ) (e : ℕ) (b : Entry) → 0 < e → (xs : List Float) → (b.hash == slice_index hs (e - 1)) && (b.len == slice_index ns ((e - 1) * 3)) ≡ same_key b (entry_at hs ns xs e)
key_is hs ns e b h xs = ap (same_key b) (entry_in_lem hs ns xs e h)

pub other_hash : (hs ns : List ℕ) (e : ℕ) (b : Entry) → 0 < e → (b.hash ≢ slice_index hs (e - 1)) → SameKeyIs hs ns e b false
other_hash hs ns e b h d xs = ap (λ (r : Bool). r && b.len == slice_index ns ((e - 1) * 3)) (sym (ne_eqb b.hash (slice_index hs (e - 1)) d)) ∙ key_is hs ns e b h xs

pub same_hash : (hs ns : List ℕ) (e : ℕ) (b : Entry) → 0 < e → b.hash ≡ slice_index hs (e - 1) → SameKeyIs hs ns e b (b.len == slice_index ns ((e - 1) * 3))
same_hash hs ns e b h q xs = ap (λ (r : Bool). r && b.len == slice_index ns ((e - 1) * 3)) (sym (eq-eqb b.hash (slice_index hs (e - 1)) q)) ∙ key_is hs ns e b h xs

-- a test of a list with one more behind
pub any_last : {A : Type 0} (p : A → Bool) (xs : List A) (y : A) → any p (xs ++ y ∷ []) ≡ (p y || any p xs)
any_last p [] y = refl
any_last {A} p (x ∷ xs) y = ap (λ (r : Bool). p x || r) (any_last p xs y) ∙ turn (p x) (p y) (any p xs)
  where
    turn : (a b r : Bool) → (a || (b || r)) ≡ (b || (a || r))
    turn true true r = refl
    turn true false r = refl
    turn false b r = refl

-- none up to e has the words of b
pub record NoKey (hs ns : List ℕ) (from to : ℕ) (b : Entry) (e : ℕ) : Type 0 where
  pub low : from ≤ e
  pub high : e ≤ to
  pub none : HasKeyIs hs ns from e b false

module _ {hs ns : List ℕ} {from to : ℕ} (b : Entry) where
  pub key_none : from ≤ to → NoKey hs ns from to b from
  key_none h = record { low = omega arith; high = h; none = λ xs. ap (λ (n : ℕ). any (same_key b) (entries hs ns xs from n)) (let e : 0 ≡ from - from = omega arith in e) }

  module _ {e : ℕ} (N : NoKey hs ns from to b e) (l : e < to) where
    pub key_found : ((xs : List Float) → true ≡ same_key b (entry_at hs ns xs e)) → HasKeyIs hs ns from to b true
    key_found S xs =
        let z = N.low in
        let at : from + (e - from) ≡ e = omega arith in
        sym (any_yes (same_key b) (entries hs ns xs from (to - from)) (entry_at hs ns xs (from + (e - from))) (in_range (entry_at hs ns xs) from (to - from) (e - from) (omega arith)) (ap (λ (k : ℕ). same_key b (entry_at hs ns xs k)) at ∙ sym (S xs)))

    pub key_next : ((xs : List Float) → false ≡ same_key b (entry_at hs ns xs e)) → NoKey hs ns from to b (e + 1)
    key_next S =
        let z = N.low in
        let at : from + (e - from) ≡ e = omega arith in
        record {
          low = omega arith;
          high = omega arith;
          none = λ xs.
              sym
              (ap (λ (n : ℕ). any (same_key b) (entries hs ns xs from n)) (let q : e + 1 - from ≡ e - from + 1 = omega arith in q)
              ∙ ap (any (same_key b)) (entries_next hs ns xs from (e - from))
              ∙ any_last (same_key b) (entries hs ns xs from (e - from)) (entry_at hs ns xs (from + (e - from)))
              ∙ ap₂ ◌||◌ (ap (λ (k : ℕ). same_key b (entry_at hs ns xs k)) at ∙ sym (S xs)) (sym (N.none xs)));
        }

  pub key_all : {e : ℕ} → NoKey hs ns from to b e → e ≡ to → HasKeyIs hs ns from to b false
  key_all N q = subst (λ (k : ℕ). HasKeyIs hs ns from k b false) q N.none

-- ---- the paths of a way

module _ (hs ns : List ℕ) (xs : List Float) (w : Way) where
  pub way_many : length (way_entries hs ns xs w) ≡ w.count
  way_many = range_many (by_way hs ns xs w) w.first w.count

  pub way_at : (i : ℕ) → i < w.count → slice_index_or (way_entries hs ns xs w) i no_entry ≡ by_way hs ns xs w (w.first + i)
  way_at i = range_at (by_way hs ns xs w) w.first w.count i no_entry

  -- the margin cuts none of the first i
  pub record UncutTo (margin : Float) (i : ℕ) : Type 0 where
    pub few : i ≤ w.count
    pub passed : (k : ℕ) → k < i → (margin ≺ (get_or (way_entries hs ns xs w) k no_entry).cost) ≡ false

  pub uncut_none : (margin : Float) → UncutTo margin 0
  uncut_none margin = record { few = omega arith; passed = λ k l. absurd (omega arith) }

  module _ {margin : Float} {i : ℕ} (U : UncutTo margin i) where
    pub uncut_next : (b : Entry) → i < w.count → b ≡ by_way hs ns xs w (w.first + i) → (margin ≺ b.cost) ≡ false → UncutTo margin (i + 1)
    uncut_next b l q f =
        record { few = omega arith; passed = below_more (λ k. (margin ≺ (get_or (way_entries hs ns xs w) k no_entry).cost) ≡ false) i U.passed (ap (λ (e : Entry). margin ≺ e.cost) (way_at i l ∙ sym q) ∙ f) }

    pub cut_at : (b : Entry) → i < w.count → b ≡ by_way hs ns xs w (w.first + i) → (margin ≺ b.cost) ≡ true → WithinIs (way_entries hs ns xs w) margin i
    cut_at b l q t = record { few = let z = way_many in omega arith; passed = U.passed; cut = λ u. ap (λ (e : Entry). margin ≺ e.cost) (way_at i l ∙ sym q) ∙ t }

    pub uncut_all : i ≡ w.count → WithinIs (way_entries hs ns xs w) margin w.count
    uncut_all e = let z = way_many in record { few = omega arith; passed = λ k l. U.passed k (omega arith); cut = λ u. absurd (omega arith) }

  -- the sums that make a path, of the entry that it leads to
  pub way_is : (e : ℕ) (b : Entry) (p q : ℕ) → b ≡ entry_at hs ns xs e → p ≡ b.hash * w.shift % 2 ^ 64 → q ≡ (p + w.hash) % 2 ^ 64
      → record { hash = q; len = b.len + w.len; cost = w.cost ⊕ b.cost; graph = w.graph ⊕ b.graph; next = e; join = w.join } ≡ by_way hs ns xs w e
  way_is e b p q s t u =
      let k : q ≡ ((entry_at hs ns xs e).hash * w.shift % 2 ^ 64 + w.hash) % 2 ^ 64 = u ∙ ap (λ (r : ℕ). (r + w.hash) % 2 ^ 64) (t ∙ ap (λ (x : Entry). x.hash * w.shift % 2 ^ 64) s) in
      λ z. record { hash = k z; len = (s z).len + w.len; cost = w.cost ⊕ (s z).cost; graph = w.graph ⊕ (s z).graph; next = e; join = w.join }

-- ---- which way comes next

module _ (hs ns : List ℕ) (xs : List Float) (own kept : Way) (i n j m : ℕ) where
  pub own_none : i ≡ n → false ≡ own_next hs ns xs own kept i n j m
  own_none e = rw (eq-eqb i n e) refl

  pub kept_none : (i ≢ n) → j ≡ m → true ≡ own_next hs ns xs own kept i n j m
  kept_none d e = rw (ne_eqb i n d, eq-eqb j m e) refl

  pub own_cheapest : (a b : Entry) → (i ≢ n) → (j ≢ m) → a ≡ by_way hs ns xs own (own.first + i) → b ≡ by_way hs ns xs kept (kept.first + j) → not (b.cost ≺ a.cost) ≡ own_next hs ns xs own kept i n j m
  own_cheapest a b d e p q = rw (ne_eqb i n d, ne_eqb j m e) (ap₂ (λ (y x : Entry). not (y.cost ≺ x.cost)) q p)
