-- The test of a label, by the pass.
use mathlib.Core.Path.{◌≡◌, refl, sym, ap, ◌∙◌}
use mathlib.Core.Bool.{Bool, true, false, not}
use lib.IntN.{pos}
use lib.ListN.{get_or}
use Rattle.model.specs.Ints.{zero_test}
use Rattle.model.specs.Basics.{nonzero}
use Rattle.arcs.specs.declared.Pass.{Pass}
use Rattle.arcs.specs.Part.{takes_label}
use Rattle.arcs.proofs.takes.Goals as goal

twice : (b : Bool) → not (not b) ≡ b
twice true = refl
twice false = refl

pub returns-in-Emitting : goal.returns-in-Emitting
returns-in-Emitting c = let z = get_or c.args.ilabels.now c.args.i (pos 0) in ap not (zero_test z search) ∙ twice (nonzero z) ∙ sym (ap (λ (p : Pass). takes_label p z) c.in-Emitting.is)

pub returns-in-Nonemitting : goal.returns-in-Nonemitting
returns-in-Nonemitting c = let z = get_or c.args.ilabels.now c.args.i (pos 0) in zero_test z (search) ∙ sym (ap (λ (p : Pass). takes_label p z) c.in-Nonemitting.is)
