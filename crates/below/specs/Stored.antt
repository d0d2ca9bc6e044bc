-- How the lists below joins stand in the lent slices: the entries, and for each join the first of its list and how many there are.
use Rattle.std.specs.Prelude.{◌≡◌, ℕ, zero, suc, ◌+◌, ◌-◌, ◌*◌, ◌≤◌, ◌<◌, Bool, not, List, [], ◌∷◌, ◌++◌, map, eqb, length, get_or, Float}
use Rattle.lists.specs.Lists.{range}
use Rattle.model.specs.Readings.{Below, at_start}
use Rattle.records.specs.History.{History, tag}
use Rattle.entries.specs.declared.Entry.{Entry}
use Rattle.entries.specs.Entries.{entry_in}

-- the model's number of a join, as a route of one or of none
abbrev pub via : (ℕ → History) → ℕ → List ℕ
via h zero = []
via h (suc j) = (tag (h (suc j)) - 1) ∷ []

-- what entry number e stands for, where the entries from 1 on stand for these
abbrev pub stands_for : List Below → ℕ → Below
stands_for bs zero = at_start
stands_for bs (suc i) = get_or bs i at_start

abbrev pub as_below : (ℕ → History) → List Below → Entry → Below
as_below h bs e = record { hash = e.hash; len = e.len; cost = e.cost; graph = e.graph; route = via h e.join ++ (stands_for bs e.next).route }

-- the first entries stand for these; each goes on with one before it
pub record Decoded (h : ℕ → History) (used : ℕ) (hs ns : List ℕ) (xs : List Float) (bs : List Below) : Type 0 where
  pub next_low : (i : ℕ) → i < length bs → (entry_in hs ns xs i).next ≤ i
  pub join_low : (i : ℕ) → i < length bs → (entry_in hs ns xs i).join ≤ used
  pub is : (i : ℕ) → i < length bs → get_or bs i at_start ≡ as_below h bs (entry_in hs ns xs i)

-- of a join's list the first entry, and how many there are; 0 is the start, whose list is the one path that is there
abbrev pub first_at : List ℕ → ℕ → ℕ
first_at lists zero = 0
first_at lists (suc j) = get_or lists (j * 2) 0

abbrev pub count_at : List ℕ → ℕ → ℕ
count_at lists zero = 1
count_at lists (suc j) = get_or lists (j * 2 + 1) 0

-- Before the lists are filled a join whose list is wanted has the count 1, and any other 0.
abbrev pub is_wanted : List ℕ → ℕ → Bool
is_wanted lists j = not (eqb (count_at lists j) 0)

-- what a join's list stands for
abbrev pub list_at : List ℕ → List Below → ℕ → List Below
list_at lists bs j = map (stands_for bs) (range (first_at lists j) (count_at lists j))
