-- The token's own path comes into hand; the pass reads no frame.
use mathlib.Core.Path.{sym, ◌∙◌}
use Rattle.nonemitting.specs.Expand.{token_asks, expand_vacant, expand_cut, state_given, expand_goes}
use Rattle.nonemitting.proofs.expand.Goals as goal

pub is_active-requires : goal.is_active-requires
is_active-requires c = let z = token_asks c.requires in (z.0, z.1)

pub returns-then-not-is_active : goal.returns-then-not-is_active
returns-then-not-is_active c = λ G. expand_vacant G (sym c.is_active.ensures ∙ c.if-not-is_active.true)

pub token_at-source-requires : goal.token_at-source-requires
token_at-source-requires c = token_asks c.requires

pub returns-then-w-source : goal.returns-then-w-source
returns-then-w-source c = λ G. expand_cut G (sym c.is_active.ensures ∙ c.if-not-is_active.false) _ c.token_at-source.ensures c.if-w-source.true

pub arrive_state-requires : goal.arrive_state-requires
arrive_state-requires c = state_given c.requires (sym c.is_active.ensures ∙ c.if-not-is_active.false) _ c.token_at-source.ensures _

pub returns : goal.returns
returns c = λ G. expand_goes G (sym c.is_active.ensures ∙ c.if-not-is_active.false) _ c.token_at-source.ensures _ _ _ _ c.if-w-source.false c.arrive_state.ensures
