-- The records that the places passed hold are marked, beside what was.
use mathlib.Core.Path.{sym, ◌∙◌}
use Prim.Native.Nat.{◌*◌}
use native.Mathlib.Omega.{arith}
use lib.ListN.{get_or}
use Rattle.tokens.specs.Held.{some_held, none_held, held_is}
use Rattle.compaction.proofs.Marking.{held_skip, held_more}
use Rattle.compaction.proofs.mark_held.Goals.{then-has_token, else-has_token}
use Rattle.compaction.proofs.mark_held.Goals as goal

pub mark-requires : goal.mark-requires
mark-requires c = let p = c.loop-p.p in
    let e = held_is c.args.tokens.now p (some_held _ (sym c.has_token.ensures ∙ c.if-has_token.true)) in
    omega (arith, e, c.requires.1 p c.loop-p-test.true)

pub loop-p-preserved : goal.loop-p-preserved
loop-p-preserved c = let l = c.loop-p in
    let tk = c.args.tokens.now in
    elim c.if-has_token.branch [
      | then-has_token w ↦
          let e = held_is tk l.p (some_held _ (sym c.has_token.ensures ∙ w.if-has_token.true)) in
          rw w.records-is (held_more tk _ _ _ l.invariant (get_or tk (l.p * 4) 0) _ e w.mark.ensures)
      | else-has_token w ↦
          rw w.records-is (held_skip tk _ _ _ l.invariant (none_held _ (sym c.has_token.ensures ∙ w.if-has_token.false)))
    ]
