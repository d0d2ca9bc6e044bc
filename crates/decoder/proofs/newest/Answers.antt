-- The newest of the states below s.
use native.Mathlib.Omega.{arith}
use mathlib.Core.Path.{◌≡◌, subst}
use Rattle.decoder.specs.Frame.{NewestIs, newest_more, one_of}
use Rattle.decoder.proofs.newest.Goals as goal

pub token_at-requires : goal.token_at-requires
token_at-requires c = let h = c.loop-s-test.true in let a = c.requires.1 in let b = c.requires.2 in (c.requires.0, omega arith, omega arith)

pub loop-s-preserved : goal.loop-s-preserved
loop-s-preserved c = let h = c.loop-s-test.true in (omega arith, newest_more _ _ _ _ _ _ c.loop-s.invariant.1 _ c.token_at.ensures (one_of _ _ _ c.max-most.ensures))

pub returns : goal.returns
returns c = let e : c.loop-s.s ≡ c.args.states = let h = c.loop-s-test.false in let k = c.loop-s.invariant.0 in omega arith in
    subst (λ n. NewestIs c.args.tokens.now c.args.sums.now c.args.side n c.loop-s.most) e c.loop-s.invariant.1
