-- The line of a refusal: its number, its name and its place, each part with its label and a semicolon. Assumes nothing.
use Rattle.std.specs.Prelude.{ℕ, Bool, cond, not, ◌&&◌, ◌||◌, List, [], ◌∷◌, ◌++◌, leb, eqb, get_or}
use Prim.Native.Char.{code}
use Prim.Native.String.{String, [] as empty, ◌∷◌ as ◌before◌}
use Rattle.decimals.specs.Decimal.{decimal}
use Rattle.decimals.specs.declared.Numbers.{Numbers}
use Rattle.refusals.specs.declared.Place.{Place}
use Rattle.refusals.specs.declared.Place.TheVariants.{Nowhere, AtArc, AtState, AtFrames}
use Rattle.refusals.specs.declared.Refusal.{Refusal}

-- the bytes of an ASCII text
unfoldable pub text : String → List ℕ
text empty = []
text (c before s) = code c ∷ text s

-- a number with its label and a semicolon
unfoldable pub numbered : List ℕ → ℕ → List ℕ
numbered label n = label ++ decimal n ++ text ";"

-- the name of a number without one of its own
unfoldable pub unnamed : List ℕ
unnamed = text "not known to this version"

-- by number; 0 is no refusal
unfoldable pub names : List (List ℕ)
names =
    unnamed
    ∷ text "graph too large or misshapen"
    ∷ text "start or arc target is no state"
    ∷ text "arc label outside the tables"
    ∷ text "arc label has no phone"
    ∷ text "weight out of range"
    ∷ text "setting or store size out of range"
    ∷ text "silence setting out of range"
    ∷ text "frame of the wrong length"
    ∷ text "frame value out of range"
    ∷ text "too many frames, or bad segments"
    ∷ text "output too short, or bad reading ends"
    ∷ text "cost out of range"
    ∷ text "record store full"
    ∷ text "epsilon queue full"
    ∷ text "reading store full"
    ∷ text "output shorter than the line"
    ∷ unnamed
    ∷ unnamed
    ∷ unnamed
    ∷ text "block or output of the wrong length"
    ∷ unnamed
    ∷ text "course setting or frame out of range"
    ∷ []

abbrev pub named : List ℕ → List ℕ
named t = text " " ++ t ++ text ";"

abbrev pub bare_name : ℕ → List ℕ
bare_name n = get_or names n unnamed

unfoldable pub name_of : ℕ → List ℕ
name_of n = named (bare_name n)

-- the state and the arc counted within it from 0, the state, or the frames decoded
unfoldable pub place_text : Place → List ℕ
place_text Nowhere = []
place_text (AtArc state arc) = numbered (text " state ") state ++ numbered (text " arc ") arc
place_text (AtState state) = numbered (text " state ") state
place_text (AtFrames frames) = numbered (text " frames decoded ") frames

abbrev pub between : (low high n : ℕ) → Bool
between low high n = leb low n && leb n high

-- an arc's 3 and 4, an arc's or a final weight's 5, a frame's 8 and 9
unfoldable pub always_placed : ℕ → Bool
always_placed n = between 3 5 n || between 8 9 n

-- an arc's 2 to 5, a final weight's 5, a frame's 8 to 10 and 12 to 14; none of the others has a place, nor has a start's 2 and 12 to 14 and a silence call's 10
unfoldable pub may_have : ℕ → Place → Bool
may_have n Nowhere = not (eqb n 0) && not (always_placed n)
may_have n (AtArc state arc) = between 2 5 n
may_have n (AtState state) = eqb n 5
may_have n (AtFrames frames) = between 8 10 n || between 12 14 n

unfoldable pub heading : ℕ → List ℕ
heading n = numbered (text "refusal ") n ++ name_of n

-- a value that no call gives has the empty line
unfoldable pub line_of : Refusal → List ℕ
line_of r = cond (may_have r.number r.place) (heading r.number ++ place_text r.place) []

-- the one refusal whose line can have these numbers
unfoldable pub refusal_of : Numbers → Refusal
refusal_of s =
    cond (not (eqb s.first 0)) (record { number = s.first; place = AtArc s.second s.third })
    (cond (eqb s.second 0) (record { number = s.third; place = Nowhere })
    (cond (eqb s.second 5) (record { number = 5; place = AtState s.third })
    (record { number = s.second; place = AtFrames s.third })))
