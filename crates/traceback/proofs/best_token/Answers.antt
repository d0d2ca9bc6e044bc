-- The best of the states passed, from the last one down.
use mathlib.Core.Path.{refl, sym, ap, ◌∙◌}
use native.Mathlib.Omega.{arith}
use Rattle.traceback.specs.Ranks.{soonest_of}
use Rattle.traceback.specs.Ranking.{chosen_none, chosen_vacant, chosen_active, chosen_all}
use Rattle.traceback.proofs.best_token.Goals as goal

pub loop-s-init : goal.loop-s-init
loop-s-init c = chosen_none _ refl

pub loop-s-preserved-then-is_active : goal.loop-s-preserved-then-is_active
loop-s-preserved-then-is_active c = chosen_active (omega arith) (omega arith) (sym c.is_active.ensures ∙ c.if-is_active.true) (c.soonest-best.ensures ∙ ap (λ o. soonest_of o c.loop-s.best) c.candidate_at.ensures) c.loop-s.invariant

pub loop-s-preserved : goal.loop-s-preserved
loop-s-preserved c = chosen_vacant (omega arith) (sym c.is_active.ensures ∙ c.if-is_active.false) c.loop-s.invariant

pub returns : goal.returns
returns c = chosen_all _ (omega arith) c.finals_count-counts.ensures c.loop-s.invariant
