-- The Rust's `trace`: on a token's own path no record starts the phone that is open, so the test for that, which the definition and the Rust's `trace_route` have and `trace` has not, changes nothing. Assumes nothing.
use Rattle.std.specs.Prelude.{◌≡◌, ℕ, true, false, cond, ℤ, Float}
use mathlib.Core.List.{List, [], ◌∷◌, map}
use Rattle.lists.specs.Lists.{keep_if}
use Rattle.model.specs.Basics.{eqℤ, nonzero}
use Rattle.model.specs.Path.{Path, empty_path, arc_onto, branch_on, word}
use Rattle.model.specs.Reads.{Traced, Rec, word_recs, segments}

-- ---- the Rust's `trace`

-- The records of a path and of no kept one, in front of later ones, oldest first. An arc with neither a word nor a change of phone has none in the Rust, and adds nothing here.
unfoldable pub own_recs : Path → List Rec → List Rec
own_recs empty_path rs = rs
own_recs (arc_onto s p) rs = own_recs p (record { frame = s.frame; word = word s; phone = s.starts } ∷ rs)
own_recs (branch_on m k p) rs = own_recs p rs

-- the records with a phone: each opens a segment, whatever phone is open
abbrev pub opens : List Rec → List Rec
opens = keep_if (λ (r : Rec). nonzero r.phone)

unfoldable pub own_trace : (n : ℕ) → Path → (cost : Float) → Traced
own_trace n p cost =
    let rs = own_recs p [] in
    record { words = map (λ (r : Rec). r.word) (word_recs rs); word_frames = map (λ (r : Rec). r.frame) (word_recs rs); phones = segments n (opens rs); cost = cost }

-- ---- what would merge two records

-- while phone ph is open, 0 for none: no record has the phone that is open when it comes
abbrev pub NeverMerges : (ph : ℤ) → List Rec → Type 0
NeverMerges ph [] = Unit {0}
NeverMerges ph (r ∷ rs) = (nonzero r.phone ≡ true → eqℤ r.phone ph ≡ false) × NeverMerges (cond (nonzero r.phone) r.phone ph) rs
