-- The model's numbers on a history and on the histories that it keeps: those of the records that it reaches.
use Rattle.std.specs.Prelude.{◌≡◌, refl, ◌⊎◌, ℕ, Bool, true, false, not, ◌&&◌, cond, List, [], ◌∷◌, ◌++◌, ℤ}
use Rattle.std.proofs.Common.{ap, ap₂, subst, inl, inr}
use mathlib.Core.List.Memᴰ
use mathlib.Core.List.Memᴰ.{head as here}
use mathlib.Core.List.Memᴰ.{tail as there}
use Rattle.lists.specs.Tests.{case}
use Rattle.lists.specs.Lists.{◌∈◌}
use Rattle.model.specs.Path.{Path, empty_path, arc_onto, branch_on, is_link, word, records, records_of}
use Rattle.records.specs.History.{History, no_history, link_onto, join_on, history_of}
use Rattle.records.specs.Layout.{Rec}
use Rattle.records.specs.Stands.{top_by}

unfoldable pub numbers : History → List ℕ
numbers no_history = []
numbers (link_onto n f w st t) = n ∷ numbers t
numbers (join_on n f b k t) = n ∷ (numbers k ++ numbers t)

-- ---- a path's

records_arc : (b : Bool) (n f : ℕ) (w st : ℤ) (xs : List ℕ) (t : History) → xs ≡ numbers t → cond b (n ∷ xs) xs ≡ numbers (cond b (link_onto n f w st t) t)
unfolding numbers
records_arc true n f w st xs t e = ap (λ (l : List ℕ). n ∷ l) e
records_arc false n f w st xs t e = e

pub records_are : (p : Path) → records p ≡ numbers (history_of p)
unfolding records numbers history_of
records_are empty_path = refl
records_are (arc_onto s p) = records_arc (is_link s && not s.beside) s.number s.frame (word s) s.starts (records p) (history_of p) (records_are p)
records_are (branch_on m k p) = ap₂ (λ (a b : List ℕ). m.number ∷ (a ++ b)) (records_are k) (records_are p)

-- those of several paths
pub of_paths : (ps : List Path) (z : ℕ) → z ∈ records_of ps → (p : Path) × (p ∈ ps) × (z ∈ records p)
of_paths [] z m = elim m [ ]
of_paths (p ∷ ps) z m = case (Memᴰ.append_cases (records p) m) (λ a. (p, here refl, a)) (λ b. let (q, i, k) = of_paths ps z b in (q, there i, k))

pub to_paths : (ps : List Path) (p : Path) → p ∈ ps → (z : ℕ) → z ∈ records p → z ∈ records_of ps
to_paths (q ∷ ps) p (here e) z m = Memᴰ.append_left (records_of ps) (subst (λ (x : Path). z ∈ records x) e m)
to_paths [] p x'' z m = elim x'' [ ]
to_paths (q ∷ ps) p (there i) z m = Memᴰ.append_right (records q) (to_paths ps p i z m)

-- ---- a record's

pub none_on : (z : ℕ) → z ∈ numbers no_history → ⊥
unfolding numbers
none_on z m = elim m [ ]

pub top_split : (b : Bool) (r : Rec) (m : ℕ) (t q : History) (z : ℕ) → z ∈ numbers (top_by b r m t q) → (z ≡ m) ⊎ ((z ∈ numbers t) ⊎ (z ∈ numbers q))
unfolding numbers
top_split true r m t q z (here e) = inl e
top_split true r m t q z (there i) = inr (inl i)
top_split false r m t q z (here e) = inl e
top_split false r m t q z (there i) = case (Memᴰ.append_cases (numbers q) i) (λ a. inr (inr a)) (λ a. inr (inl a))

pub top_own : (b : Bool) (r : Rec) (m : ℕ) (t q : History) → m ∈ numbers (top_by b r m t q)
unfolding numbers
top_own true r m t q = here refl
top_own false r m t q = here refl

pub top_prev : (b : Bool) (r : Rec) (m : ℕ) (t q : History) (z : ℕ) → z ∈ numbers t → z ∈ numbers (top_by b r m t q)
unfolding numbers
top_prev true r m t q z i = there i
top_prev false r m t q z i = there (Memᴰ.append_right (numbers q) i)

-- a link keeps nothing
pub top_kept : (b : Bool) (r : Rec) (m : ℕ) (t q : History) (z : ℕ) → (b ≡ true → q ≡ no_history) → z ∈ numbers q → z ∈ numbers (top_by b r m t q)
unfolding numbers
top_kept true r m t q z a i = absurd (none_on z (subst (λ (x : History). z ∈ numbers x) (a refl) i))
top_kept false r m t q z a i = there (Memᴰ.append_left (numbers t) i)
