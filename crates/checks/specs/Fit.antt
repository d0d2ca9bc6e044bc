-- The settings and the stores of a fitting: which are refused, and the places that the others have. Assumes nothing.
use Rattle.std.specs.Prelude.{◌≡◌, refl, ℕ, ◌-◌, ◌/◌, ◌≤◌, ◌<◌, Bool, true, false, not, ◌||◌, cond, List, [], ◌∷◌, leb, ltb}
use Rattle.std.proofs.Common.{sym, ap₂, ◌∙◌, arith, leb-true, ltb-true, ltb-false, lt-ltb, le-ltb, le-leb}
use Rattle.std.proofs.Math.Path.{ap}
use Rattle.std.proofs.Math.Option.{none, some}
use mathlib.Core.List.Memᴰ.{head as here}
use mathlib.Core.List.Memᴰ.{tail as there}
use Rattle.std.proofs.lemmas.Bool.{not-false, lt-leb}
use Rattle.lists.specs.Lists.{◌∈◌}
use Rattle.lists.specs.Members.{all_each}
use Rattle.lists.specs.Tests.{case, lt_or_le, or_neither}
use Rattle.model.specs.Basics.{refuse}
use Rattle.model.specs.Graph.{Graph, states}
use Rattle.model.specs.Passes.{fair, Places, at_least, check_fit}
use Rattle.cutoff.specs.declared.Config.{Config}
use Rattle.cutoff.specs.Costs.{config_of}
use Rattle.places.specs.Places.{least, kept_places}
use Rattle.checks.specs.declared.Lengths.{Lengths}

-- ---- places

-- the least of a list with this first one
abbrev pub least_of : ℕ → List ℕ → ℕ
least_of k [] = k
least_of k (x ∷ xs) = least k (least_of x xs)

-- the record store is three slices
abbrev pub record_places : Lengths → ℕ
record_places l = least_of (l.records / 8) (l.labels / 2 ∷ l.gaps / 2 ∷ [])

-- the store for kept readings is three slices
abbrev pub kept_places_of : Lengths → ℕ
kept_places_of l = kept_places l.kept_hashes l.kept_links l.kept_sums

-- of each slice kept per state
abbrev pub for_states : Lengths → List ℕ
for_states l = l.tokens / 8 ∷ l.sums / 4 ∷ l.eps ∷ l.scratch ∷ l.keys ∷ l.places ∷ l.own ∷ l.heads ∷ l.list ∷ []

-- of each slice kept per record
abbrev pub for_records : Lengths → List ℕ
for_records l = l.lists / 2 ∷ l.route ∷ l.history_keys / 2 ∷ l.history_skips / 2 ∷ []

-- of each slice kept per kept reading; `list` has a place for every state in front
abbrev pub for_kept : (states : ℕ) → Lengths → List ℕ
for_kept n l = l.keys ∷ l.order ∷ (l.list - n) ∷ []

-- what a fitting is lent for a graph of n states
abbrev pub places_of : (states : ℕ) → Lengths → Places
places_of n l = record { for_states = for_states l; records = record_places l; for_records = for_records l; kept = kept_places_of l; for_kept = for_kept n l }

abbrev pub config_wrong : Config → Bool
config_wrong c = not (fair c.beam) || not (fair c.beam_delta) || leb c.max_active c.min_active

-- too few places per record or per kept reading
abbrev pub scratch_wrong : (states : ℕ) → Lengths → Bool
scratch_wrong n l = not (at_least (record_places l) (for_records l)) || not (at_least (kept_places_of l) (for_kept n l))

abbrev pub stores_wrong : (states : ℕ) → Lengths → Bool
stores_wrong n l = not (at_least n (for_states l)) || (ltb 1_048_576 (record_places l) || scratch_wrong n l)

-- ---- the least of a list

least_le : (a b : ℕ) → (least a b ≤ a) × (least a b ≤ b)
least_le a b = go (ltb b a) refl
  where
    go : (t : Bool) → ltb b a ≡ t → (cond t b a ≤ a) × (cond t b a ≤ b)
    go true e = let z = ltb-true b a e in (omega arith, omega arith)
    go false e = let z = ltb-false b a e in (omega arith, omega arith)

not_under : (n a b : ℕ) → n ≤ a → n ≤ b → n ≤ least a b
not_under n a b h k = go (ltb b a)
  where
    go : (t : Bool) → n ≤ cond t b a
    go true = k
    go false = h

pub least_each : (k : ℕ) (xs : List ℕ) (x : ℕ) → x ∈ (k ∷ xs) → least_of k xs ≤ x
least_each k [] x (there i) = elim i [ ]
least_each k [] x (here e) = omega arith
least_each k (y ∷ ys) x (here e) = let z = (least_le k (least_of y ys)).0 in omega arith
least_each k (y ∷ ys) x (there i) = let z = (least_le k (least_of y ys)).1 in let w = least_each y ys x i in omega arith

-- the least is under n just where one of them is
pub least_under : (n k : ℕ) (xs : List ℕ) → ltb (least_of k xs) n ≡ not (at_least n (k ∷ xs))
least_under n k [] = case (lt_or_le k n) (λ h. rw (lt-ltb k n h, lt-leb n k h)) (λ h. rw (le-ltb k n h, le-leb n k h))
least_under n k (x ∷ xs) =
    case (lt_or_le k n) (λ h. lt-ltb (least_of k (x ∷ xs)) n (let z = (least_le k (least_of x xs)).0 in omega arith) ∙ (rw (lt-leb n k h)))
    (λ h. under h ∙ least_under n x xs ∙ (rw (le-leb n k h)))
  where
    under : n ≤ k → ltb (least k (least_of x xs)) n ≡ ltb (least_of x xs) n
    under h =
        case (lt_or_le (least_of x xs) n) (λ i. lt-ltb (least k (least_of x xs)) n (let z = (least_le k (least_of x xs)).1 in omega arith) ∙ sym (lt-ltb (least_of x xs) n i))
        (λ i. le-ltb (least k (least_of x xs)) n (not_under n k (least_of x xs) h i) ∙ sym (le-ltb (least_of x xs) n i))

-- ---- the tests, one after the other

pub wrong_first : {a : Bool} (b : Bool) → a ≡ true → true ≡ (a || b)
wrong_first b e = sym (ap (λ (x : Bool). x || b) e)

pub wrong_next : {a b x : Bool} → a ≡ false → x ≡ b → x ≡ (a || b)
wrong_next {b = b} e q = q ∙ sym (ap (λ (x : Bool). x || b) e)

module _ (n : ℕ) {k : ℕ} (j : ℕ) (xs : List ℕ) (e : k ≡ least_of j xs) where
  test : ltb k n ≡ not (at_least n (j ∷ xs))
  test = ap (λ (x : ℕ). ltb x n) e ∙ least_under n j xs

  pub too_few : k < n → not (at_least n (j ∷ xs)) ≡ true
  too_few h = sym test ∙ lt-ltb k n h

  pub enough : n ≤ k → not (at_least n (j ∷ xs)) ≡ false
  enough h = sym test ∙ le-ltb k n h

-- ---- what the fitter's check says

or_five : (x a b c d : Bool) → ((((x || a) || b) || c) || d) ≡ (x || (a || (b || (c || d))))
or_five true a b c d = refl
or_five false true b c d = refl
or_five false false true c d = refl
or_five false false false c d = refl

module _ (g : Graph) (c : Config) (l : Lengths) where
  check_is : check_fit g (config_of c) (places_of (states g) l) ≡ refuse 6 (config_wrong c || stores_wrong (states g) l)
  unfolding check_fit
  check_is =
      ap (refuse 6)
      (or_five (config_wrong c) (not (at_least (states g) (for_states l))) (ltb 1_048_576 (record_places l)) (not (at_least (record_places l) (for_records l))) (not (at_least (kept_places_of l) (for_kept (states g) l))))

  pub config_refused : config_wrong c ≡ true → check_fit g (config_of c) (places_of (states g) l) ≡ some 6
  config_refused e = check_is ∙ ap (λ (b : Bool). refuse 6 (b || stores_wrong (states g) l)) e

  pub stores_refused : config_wrong c ≡ false → stores_wrong (states g) l ≡ true → check_fit g (config_of c) (places_of (states g) l) ≡ some 6
  stores_refused e d = check_is ∙ ap₂ (λ (a b : Bool). refuse 6 (a || b)) e d

  pub fit_accepted : config_wrong c ≡ false → stores_wrong (states g) l ≡ false → check_fit g (config_of c) (places_of (states g) l) ≡ none
  fit_accepted e d = check_is ∙ ap₂ (λ (a b : Bool). refuse 6 (a || b)) e d

-- each of these is at least n
abbrev pub Wide : ℕ → List ℕ → Type 0
Wide n ks = (k : ℕ) → k ∈ ks → n ≤ k

-- the places that stores have which are not refused
pub record Roomy (n : ℕ) (l : Lengths) : Type 0 where
  pub per_state : Wide n (for_states l)
  pub records_few : record_places l ≤ 1_048_576
  pub per_record : Wide (record_places l) (for_records l)
  pub per_kept : Wide (kept_places_of l) (for_kept n l)

wide : (n : ℕ) (ks : List ℕ) → not (at_least n ks) ≡ false → Wide n ks
wide n ks e k i = leb-true n k (all_each (λ j. leb n j) ks (not-false (at_least n ks) e) k i)

pub roomy : (n : ℕ) (l : Lengths) → stores_wrong n l ≡ false → Roomy n l
roomy n l e =
    let a = or_neither (not (at_least n (for_states l))) _ e in
    let b = or_neither (ltb 1_048_576 (record_places l)) _ a.1 in
    let d = or_neither (not (at_least (record_places l) (for_records l))) (not (at_least (kept_places_of l) (for_kept n l))) b.1 in
    record {
      per_state = wide n (for_states l) a.0;
      records_few = ltb-false 1_048_576 (record_places l) b.0;
      per_record = wide (record_places l) (for_records l) d.0;
      per_kept = wide (kept_places_of l) (for_kept n l) d.1;
    }

passed : (b : Bool) → refuse 6 b ≡ none → b ≡ false
passed true q = let z : ◌≡◌ {A = ℕ} 0 1 = cc in absurd (omega arith)
passed false q = refl

module _ (g : Graph) (c : Config) (l : Lengths) (e : check_fit g (config_of c) (places_of (states g) l) ≡ none) where
  no : (config_wrong c ≡ false) × (stores_wrong (states g) l ≡ false)
  no = or_neither (config_wrong c) (stores_wrong (states g) l) (passed (config_wrong c || stores_wrong (states g) l) (sym (check_is g c l) ∙ e))

  pub fit_roomy : Roomy (states g) l
  fit_roomy = roomy (states g) l no.1

  pub fit_beam : fair c.beam ≡ true
  fit_beam = not-false (fair c.beam) (or_neither (not (fair c.beam)) (not (fair c.beam_delta)) (or_neither (not (fair c.beam) || not (fair c.beam_delta)) (leb c.max_active c.min_active) no.0).0).0
