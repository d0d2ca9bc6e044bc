-- What a compaction asks, and what it gives.
use Rattle.std.specs.Prelude.{◌≡◌, refl, ℕ, zero, suc, ◌*◌, ◌≤◌, ◌<◌, List, length}
use Rattle.std.proofs.Common.{sym, ap, ◌∙◌, arith}
use Rattle.lists.specs.Tests.{case}
use Rattle.lists.specs.Lists.{◌∈◌}
use Rattle.model.specs.Path.{Path}
use Rattle.tokens.specs.Layout.{held_at, seq_at, phone_at, requeued_at}
use Rattle.records.specs.History.{History, history_of}
use Rattle.records.specs.Layout.{Store}
use Rattle.records.specs.Stands.{Stands}
use Rattle.records.specs.Shape.{Shape}
use Rattle.compaction.specs.Marks.{new_of, Root}
use Rattle.compaction.specs.Count.{Known, AllLive, Covers, Tight}

-- The tokens of the first `places` places and the hand hold records. It speaks of no history.
pub record Holds (s : Store) (tk : List ℕ) (places used x : ℕ) : Type 0 where
  pub shape : Shape s used
  pub few : used ≤ 1048576
  pub room : places * 4 ≤ length tk
  pub held : (p : ℕ) → p < places → held_at tk p ≤ suc used
  pub number : x ≤ used

-- of the first n places what is held may differ, and nothing else
pub record SameTokens (tk tk' : List ℕ) (n : ℕ) : Type 0 where
  pub seq : (p : ℕ) → seq_at tk' p ≡ seq_at tk p
  pub phone : (p : ℕ) → phone_at tk' p ≡ phone_at tk p
  pub requeued : (p : ℕ) → requeued_at tk' p ≡ requeued_at tk p
  pub beyond : (p : ℕ) → n ≤ p → held_at tk' p ≡ held_at tk p

-- the first n places hold records by their new numbers
pub record Renumbered (rs tk tk' : List ℕ) (n : ℕ) : Type 0 where
  pub others : SameTokens tk tk' n
  pub none : (p : ℕ) → held_at tk p ≡ 0 → held_at tk' p ≡ 0
  pub held : (p r : ℕ) → p < n → held_at tk p ≡ suc r → held_at tk' p ≡ suc (new_of rs r)

-- The records carried over, in their order: `old j` is the number that record j had, and record j stands for what that one stood for. The tokens and the hand hold the records
-- that they held.
pub record Carried (s s' : Store) (tk tk' : List ℕ) (places used used' x x' : ℕ) : Type 0 where
  pub old : ℕ → ℕ
  pub few : used' ≤ used
  pub first : old 0 ≡ 0
  pub upto : (j : ℕ) → j ≤ used' → old j ≤ used
  pub ascends : (i j : ℕ) → i < j → j ≤ used' → old i < old j
  pub shape : Shape s' used'
  pub stands : (h : ℕ → History) → Stands s used h → Stands s' used' (λ j. h (old j))
  pub others : SameTokens tk tk' places
  pub none : (p : ℕ) → held_at tk p ≡ 0 → held_at tk' p ≡ 0
  pub held : (p r : ℕ) → p < places → held_at tk p ≡ suc r → (r' : ℕ) × (held_at tk' p ≡ suc r') × (r' ≤ used') × (old r' ≡ r)
  pub number : (x' ≤ used') × (old x' ≡ x)

-- A compaction leaves live records only: where each root stands for one of the paths, each record is on one.
pub record Compacted (s s' : Store) (tk tk' : List ℕ) (places used used' x x' : ℕ) : Type 0 where
  pub carried : Carried s s' tk tk' places used used' x x'
  pub live : (h : ℕ → History) (ps : List Path) → Stands s used h → Covers (Root tk places x) h ps → AllLive (λ j. h (carried.old j)) used' ps

-- Room for two more records among `cap`, or live records only.
pub record RoomMade (s s' : Store) (tk tk' : List ℕ) (places used used' cap x x' : ℕ) : Type 0 where
  pub carried : Carried s s' tk tk' places used used' x x'
  pub tight : (h : ℕ → History) (ps : List Path) → Stands s used h → Covers (Root tk places x) h ps → Tight 2 cap (λ j. h (carried.old j)) used' ps

-- ---- what holds again

module _ (s s' : Store) (tk tk' : List ℕ) (places used used' x x' : ℕ) (c : Carried s s' tk tk' places used used' x x') where
  within : (p : ℕ) → p < places → (v : ℕ) → held_at tk p ≡ v → held_at tk' p ≤ suc used'
  within p l zero e = omega (arith, c.none p e)
  within p l (suc r) e = let (r', d, b, o) = c.held p r l e in omega arith

  pub holds_again : Holds s tk places used x → length tk' ≡ length tk → Holds s' tk' places used' x'
  holds_again h e = record { shape = c.shape; few = omega (arith, h.few, c.few); room = omega (arith, h.room); held = λ p l. within p l (held_at tk p) refl; number = c.number.0 }

  -- paths of roots are known by their new numbers
  pub known_again : (h : ℕ → History) (ps : List Path) → ((p : Path) → p ∈ ps → (r : ℕ) × Root tk places x r × (h r ≡ history_of p)) → Known (λ j. h (c.old j)) used' ps
  known_again h ps of-roots p i =
      let (r, w, e) = of-roots p i in
      case w
      (λ q.
      let (r', d, b, o) = c.held q.0 r q.1 q.2 in
      (r', b, ap h o ∙ e))
      (λ d. (x', c.number.0, ap h (c.number.1 ∙ sym d) ∙ e))
