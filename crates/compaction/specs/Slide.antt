-- Moving the marked records down.
use Rattle.std.specs.Prelude.{◌≡◌, ℕ, suc, ◌+◌, ◌-◌, ◌*◌, ◌≤◌, ◌<◌, List, [], ◌∷◌, get_or, set}
use Rattle.std.proofs.lemmas.List.Edits.{sets}
use Rattle.records.specs.Layout.{Store, Rec, rec_at, frame_at, starts_at, kept_starts_at, kept_phone_at, winner_at}
use Rattle.records.specs.Shape.{Shape}
use Rattle.compaction.specs.Marks.{new_of, Marked}

-- record k + 1 as record n + 1, with other numbers for what it names, and its new number as its mark
abbrev pub moved_numbers : List ℕ → (k n prev kept : ℕ) → List ℕ
moved_numbers rs k n p q = set (sets rs (n * 8) (p ∷ frame_at rs k ∷ starts_at rs k ∷ q ∷ kept_starts_at rs k ∷ kept_phone_at rs k ∷ winner_at rs k ∷ [])) (k * 8 + 7) (suc n)

abbrev pub moved_pair : {A : Type 0} → A → List A → (k n : ℕ) → List A
moved_pair d l k n = sets l (n * 2) (get_or l (k * 2) d ∷ get_or l (k * 2 + 1) d ∷ [])

-- a record with the new numbers of what it names
abbrev pub renumbered : List ℕ → Rec → Rec
renumbered rs r = record { prev = new_of rs r.prev; frame = r.frame; kept = new_of rs r.kept; word = r.word; starts = r.starts; beside = r.beside }

-- The first k records of s have been looked at, and the marked ones among them are the first n of s', in their order and with their new numbers as marks; `old` gives the
-- number that a new number stood for. The records from k on are as they were.
pub record Slid (s s' : Store) (k n : ℕ) : Type 0 where
  pub old : ℕ → ℕ
  pub few : n ≤ k
  pub none : old 0 ≡ 0
  pub upto : (j : ℕ) → j ≤ n → old j ≤ k
  pub ascends : (i j : ℕ) → i < j → j ≤ n → old i < old j
  pub forth : (j : ℕ) → j ≤ n → new_of s'.records (old j) ≡ j
  pub small : (r : ℕ) → r ≤ k → new_of s'.records r ≤ n
  pub back : (r : ℕ) → r ≤ k → Marked s.records r → old (new_of s'.records r) ≡ r
  pub live : (j : ℕ) → 0 < j → j ≤ n → Marked s.records (old j)
  pub moved : (j : ℕ) → j < n → rec_at s' j ≡ renumbered s'.records (rec_at s (old (suc j) - 1))
  pub marks_left : (r : ℕ) → k < r → new_of s'.records r ≡ new_of s.records r
  pub records_left : (i : ℕ) → k ≤ i → rec_at s' i ≡ rec_at s i

-- one record looked at: wherever the slide began, it has got one further
pub record SlidOne (s s' : Store) (k n r : ℕ) : Type 0 where
  pub few : r ≤ k + 1
  pub next : (s₀ : Store) (used : ℕ) → k < used → Shape s₀ used → Slid s₀ s k n → Slid s₀ s' (k + 1) r
