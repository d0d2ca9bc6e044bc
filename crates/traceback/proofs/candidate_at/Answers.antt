-- By whether its cost is finite.
use mathlib.Core.Path.{sym, ap₂, ◌∙◌}
use lib.Ieee.{Float}
use Rattle.tokens.specs.declared.Token.{Token as Stored}
use Rattle.traceback.specs.Ranks.{candidate_of}
use Rattle.traceback.specs.Ranking.{candidate_none, candidate_some}
use Rattle.traceback.proofs.candidate_at.Goals as goal

pub returns-then-not-is_finite : goal.returns-then-not-is_finite
returns-then-not-is_finite c = let a = c.args in
    candidate_none a.s c.token_at-t.result c.end_weight-weight.result a.counts (sym c.is_finite.ensures ∙ c.if-not-is_finite.true) ∙ ap₂ (λ (t : Stored) (w : Float). candidate_of a.s t w a.counts) c.token_at-t.ensures c.end_weight-weight.ensures

pub returns : goal.returns
returns c = let a = c.args in
    candidate_some a.s c.token_at-t.result c.end_weight-weight.result a.counts c.rank_of-rank.result (sym c.is_finite.ensures ∙ c.if-not-is_finite.false) c.rank_of-rank.ensures ∙ ap₂ (λ (t : Stored) (w : Float). candidate_of a.s t w a.counts) c.token_at-t.ensures c.end_weight-weight.ensures
