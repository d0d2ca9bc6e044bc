-- The phone segments of a token's own path are nonempty, abut and run from 0 to the frame count; frame by frame they are the phones of its emitting arcs. Assumes nothing.
use Rattle.std.specs.Prelude.{◌≡◌, ℕ, suc, ◌-◌, ◌<◌, true, List, [], ◌∷◌, ◌++◌, map, replicate, ℤ, pos}
use mathlib.Core.List.Memᴰ
use Rattle.lists.specs.Lists.{◌∈◌, keep_if}
use Rattle.model.specs.Basics.{nonzero}
use Rattle.model.specs.Graph.{Graph, Arc, emits, phone_of}
use Rattle.model.specs.Reads.{Segment, Rec}
use Rattle.copy_laws.specs.Shapes.{started_by}

-- from a to n: each is nonempty and begins where the last ended
abbrev pub Tiles : (a n : ℕ) → List Segment → Type 0
Tiles a n [] = a ≡ n
Tiles a n (s ∷ ss) = (s.start ≡ a) × (s.start < s.end) × Tiles s.end n ss

-- the phone of each frame
abbrev pub spelled : List Segment → List ℤ
spelled [] = []
spelled (s ∷ ss) = replicate (s.end - s.start) s.phone ++ spelled ss

-- the phones of the emitting arcs
abbrev pub phones_on : Graph → List Arc → List ℤ
phones_on g route = map (phone_of g) (keep_if emits route)

-- ---- the records of arcs

-- From phone ph and k emitting arcs on, to n of them: these are the phones of the emitting arcs that follow.
pub data Marks : (ph : ℤ) → (k n : ℕ) → List Rec → List ℤ → Type 0 where
  marks_end : {ph : ℤ} {n : ℕ} → Marks ph n n [] []
  marks_epsilon : {ph : ℤ} {k n : ℕ} {r : Rec} {rs : List Rec} {qs : List ℤ} → r.phone ≡ pos 0 → Marks ph k n rs qs → Marks ph k n (r ∷ rs) qs
  marks_emitting : {ph : ℤ} {k n : ℕ} {r : Rec} {rs : List Rec} {qs : List ℤ} (q : ℤ) → nonzero q ≡ true → r.frame ≡ k → r.phone ≡ started_by q ph → Marks q (suc k) n rs qs → Marks ph k n (r ∷ rs) (q ∷ qs)

-- every emitting arc has a phone
abbrev pub Phoned : Graph → List Arc → Type 0
Phoned g route = (a : Arc) → a ∈ route → emits a ≡ true → nonzero (phone_of g a) ≡ true

-- ---- the segments of such records

-- they tile from a to n, and spell these phones
pub record Spell (a n : ℕ) (ss : List Segment) (qs : List ℤ) : Type 0 where
  pub tiles : Tiles a n ss
  pub spells : spelled ss ≡ qs
