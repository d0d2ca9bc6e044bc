-- An active state's record number is read; another's is none.
use mathlib.Core.Path.{sym, ◌∙◌}
use native.Mathlib.Omega.{arith}
use Rattle.tokens.specs.Layout.{place_in, held_at}
use Rattle.tokens.specs.Held.{some_held, none_held, held_is}
use Rattle.tokens.proofs.link_at.Goals as goal

pub returns-then-not-is_active : goal.returns-then-not-is_active
returns-then-not-is_active c = let a = c.args in omega (arith, none_held (held_at a.tokens.now (place_in a.side a.s)) (sym c.is_active.ensures ∙ c.if-not-is_active.true))

pub returns : goal.returns
returns c = let a = c.args in
    omega (arith, held_is a.tokens.now (place_in a.side a.s) (some_held _ (sym c.is_active.ensures ∙ c.if-not-is_active.false)))
