-- Each is tested, until one fails.
use mathlib.Core.Path.{◌≡◌, refl, ap, ◌∙◌}
use mathlib.Core.Bool.{Bool, ◌&&◌}
use mathlib.Core.List.{List, [], ◌∷◌}
use lib.Ieee.{Float}
use borrow.Author.Rules.{rules}
use Rattle.std.specs.List.{list_all}
use Rattle.std.proofs.lemmas.Iterator.{YieldsList-from_slice}
use Rattle.std.proofs.lemmas.Iterator.Search.{all_from_yields_List}
use Rattle.lists.specs.Lists.{all}
use Rattle.real32.specs.Small.{tame}
use Rattle.checks.proofs.all_tame.Goals as goal

-- std's test of a whole list is the definition's
same : (p : Float → Bool) (xs : List Float) → list_all p xs ≡ all p xs
same p [] = refl
same p (x ∷ xs) = ap (λ (b : Bool). p x && b) (same p xs)

pub returns : goal.returns
returns c =
    all_from_yields_List tame _ _ _ c.all.ensures.ran (YieldsList-from_slice c.args.loglikes.now cc) (λ x b q k. search rules)
    ∙ same tame c.args.loglikes.now
