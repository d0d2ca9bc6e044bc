-- An arc that the pass does not take changes nothing.
use mathlib.Core.Path.{sym, ◌∙◌}
use Rattle.arcs.specs.All.{step_skips, taken_now, whole_given, step_whole}
use Rattle.arcs.proofs.arrive_at.Goals as goal

pub returns-then-not-takes : goal.returns-then-not-takes
returns-then-not-takes c = λ G. step_skips G _ c.requires.1 (sym c.takes.ensures ∙ c.if-not-takes.true)

pub arrival_at-a-requires : goal.arrival_at-a-requires
arrival_at-a-requires c = taken_now c.requires.0 _ c.requires.1 (sym c.takes.ensures ∙ c.if-not-takes.false)

pub arrive_whole-requires : goal.arrive_whole-requires
arrive_whole-requires c = whole_given c.requires.0 _ c.requires.1 (sym c.takes.ensures ∙ c.if-not-takes.false) _ c.arrival_at-a.ensures

pub returns : goal.returns
returns c = λ G. step_whole G _ c.requires.1 (sym c.takes.ensures ∙ c.if-not-takes.false) _ c.arrival_at-a.ensures _ _ _ c.arrive_whole.ensures
