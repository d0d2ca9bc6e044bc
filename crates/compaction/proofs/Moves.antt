-- What moving one record leaves: the record at its new place, its new number, and every other record and mark as it was. Assumes nothing.
use mathlib.Core.Path.{◌≡◌, ◌∙◌}
use mathlib.Core.Logic.{◌⊎◌, inl, inr}
use Prim.Native.Nat.{ℕ, zero, suc, ◌+◌, ◌*◌, ◌≤◌, ◌<◌}
use native.Mathlib.Omega.{arith}
use mathlib.Core.Path.{refl}
use mathlib.Core.List.{List, [], ◌∷◌}
use lib.IntN.{pos}
use lib.Ieee.{nan}
use lib.ListN.{length, get_or}
use lib.Seq.{sets, length-sets, get_or-set_same, get_or-set_other}
use Rattle.lists.specs.Tests.{case, lt_or_le}
use Rattle.lists.specs.Sets.{sets_off, sets_on, sets_first}
use Rattle.records.specs.Layout.{Store, store, Rec, rec_at, frame_at, starts_at, kept_starts_at, kept_phone_at, winner_at}
use Rattle.compaction.specs.Marks.{new_of}
use Rattle.compaction.specs.Slide.{moved_numbers, moved_pair}

-- on one side or the other
pub differ : (j n : ℕ) → (j ≡ n → ⊥) → (j < n) ⊎ (n < j)
differ j n d = case (lt_or_le j n) inl (λ a. inr (omega (arith, d)))

-- a pair of the labels or the gaps
module _ {A : Type 0} (d : A) (l : List A) (k n : ℕ) where
  pair_off : (j i : ℕ) → (j < n) ⊎ (n < j) → j * 2 ≤ i → i < j * 2 + 2 → get_or (moved_pair d l k n) i d ≡ get_or l i d
  pair_off j i side a b = sets_off (get_or l (k * 2) d ∷ get_or l (k * 2 + 1) d ∷ []) l (n * 2) i d (case side (λ h. inl (omega arith)) (λ h. inr (omega arith)))

  module _ (room : n * 2 + 2 ≤ length l) where
    pair_first : get_or (moved_pair d l k n) (n * 2) d ≡ get_or l (k * 2) d
    pair_first = sets_first (get_or l (k * 2) d ∷ get_or l (k * 2 + 1) d ∷ []) l (n * 2) d (omega arith) (omega arith)

    pair_second : get_or (moved_pair d l k n) (n * 2 + 1) d ≡ get_or l (k * 2 + 1) d
    pair_second = sets_on (get_or l (k * 2) d ∷ get_or l (k * 2 + 1) d ∷ []) l (n * 2) 1 d (omega arith) (omega arith)

module _ (rs : List ℕ) (k n p q : ℕ) where
  abbrev values : List ℕ
  values = p ∷ frame_at rs k ∷ starts_at rs k ∷ q ∷ kept_starts_at rs k ∷ kept_phone_at rs k ∷ winner_at rs k ∷ []

  abbrev after : List ℕ
  after = moved_numbers rs k n p q

  number_off : (j i : ℕ) → (j < n) ⊎ (n < j) → j * 8 ≤ i → i < j * 8 + 7 → get_or after i 0 ≡ get_or rs i 0
  number_off j i side a b =
      get_or-set_other (sets rs (n * 8) values) (k * 8 + 7) i (suc n) 0 (λ e. omega arith) ∙
      sets_off values rs (n * 8) i 0 (case side (λ h. inl (omega arith)) (λ h. inr (omega arith)))

  number_first : n * 8 + 7 ≤ length rs → get_or after (n * 8) 0 ≡ p
  number_first room = get_or-set_other (sets rs (n * 8) values) (k * 8 + 7) (n * 8) (suc n) 0 (λ e. omega arith) ∙ sets_first values rs (n * 8) 0 (omega arith) room

  number_on : n * 8 + 7 ≤ length rs → (c : ℕ) → c < 7 → get_or after (n * 8 + c) 0 ≡ get_or values c 0
  number_on room c l = get_or-set_other (sets rs (n * 8) values) (k * 8 + 7) (n * 8 + c) (suc n) 0 (λ e. omega arith) ∙ sets_on values rs (n * 8) c 0 l room

  pub mark_on : k * 8 + 8 ≤ length rs → new_of after (suc k) ≡ suc n
  unfolding new_of
  mark_on room = get_or-set_same (sets rs (n * 8) values) (k * 8 + 7) (suc n) 0 (rw (length-sets rs (n * 8) values) (omega arith))

  pub mark_off : (r : ℕ) → (r ≡ suc k → ⊥) → new_of after r ≡ new_of rs r
  unfolding new_of
  mark_off zero d = refl
  mark_off (suc i) d =
      get_or-set_other (sets rs (n * 8) values) (k * 8 + 7) (i * 8 + 7) (suc n) 0 (λ e. d (omega arith)) ∙
      sets_off values rs (n * 8) (i * 8 + 7) 0 (case (lt_or_le i n) (λ h. inl (omega arith)) (λ h. inr (omega arith)))

module _ (s : Store) (k n p q : ℕ) where
  abbrev pub after_move : Store
  after_move = store (moved_numbers s.records k n p q) (moved_pair (pos 0) s.labels k n) (moved_pair nan s.gaps k n)

  pub record_off : (j : ℕ) → (j ≡ n → ⊥) → rec_at after_move j ≡ rec_at s j
  unfolding rec_at
  record_off j d =
      let side = differ j n d in
      let at : (c : ℕ) → c < 7 → get_or after_move.records (j * 8 + c) 0 ≡ get_or s.records (j * 8 + c) 0 = λ c l. number_off s.records k n p q j (j * 8 + c) side (omega arith) (omega arith) in
      λ i. record {
        prev = number_off s.records k n p q j (j * 8) side (omega arith) (omega arith) i;
        frame = at 1 (omega arith) i;
        kept = at 3 (omega arith) i;
        word = pair_off (pos 0) s.labels k n j (j * 2) side (omega arith) (omega arith) i;
        starts = pos (at 2 (omega arith) i);
        beside = record {
          word = pair_off (pos 0) s.labels k n j (j * 2 + 1) side (omega arith) (omega arith) i;
          starts = pos (at 4 (omega arith) i);
          cost = pair_off nan s.gaps k n j (j * 2) side (omega arith) (omega arith) i;
          graph = pair_off nan s.gaps k n j (j * 2 + 1) side (omega arith) (omega arith) i;
          phone = pos (at 5 (omega arith) i);
          winner = pos (at 6 (omega arith) i);
        };
      }

  abbrev pub as_moved : Rec
  as_moved = let r = rec_at s k in record { prev = p; frame = r.frame; kept = q; word = r.word; starts = r.starts; beside = r.beside }

  pub record_on : n * 8 + 7 ≤ length s.records → n * 2 + 2 ≤ length s.labels → n * 2 + 2 ≤ length s.gaps → rec_at after_move n ≡ as_moved
  unfolding rec_at
  record_on a b c i =
      record {
        prev = number_first s.records k n p q a i;
        frame = number_on s.records k n p q a 1 (omega arith) i;
        kept = number_on s.records k n p q a 3 (omega arith) i;
        word = pair_first (pos 0) s.labels k n b i;
        starts = pos (number_on s.records k n p q a 2 (omega arith) i);
        beside = record {
          word = pair_second (pos 0) s.labels k n b i;
          starts = pos (number_on s.records k n p q a 4 (omega arith) i);
          cost = pair_first nan s.gaps k n c i;
          graph = pair_second nan s.gaps k n c i;
          phone = pos (number_on s.records k n p q a 5 (omega arith) i);
          winner = pos (number_on s.records k n p q a 6 (omega arith) i);
        };
      }
