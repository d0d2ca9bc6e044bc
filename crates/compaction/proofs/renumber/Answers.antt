-- The places passed hold their records by the new numbers, and the others what they held.
use mathlib.Core.Path.{sym, ◌∙◌}
use Prim.Native.Nat.{◌*◌}
use native.Mathlib.Omega.{arith}
use lib.ListN.{get_or}
use Rattle.tokens.specs.Held.{some_held, none_held, held_is}
use Rattle.compaction.proofs.Compacting.{renumbered_skip, renumbered_more}
use Rattle.compaction.proofs.renumber.Goals.{then-has_token, else-has_token}
use Rattle.compaction.proofs.renumber.Goals as goal

pub new_number-requires : goal.new_number-requires
new_number-requires c = let l = c.loop-place in
    let e = held_is l.tokens l.place (some_held _ (sym c.has_token.ensures ∙ c.if-has_token.true)) in
    omega (arith, e, l.invariant.others.beyond l.place (omega arith), c.requires.1 l.place c.loop-place-test.true)

pub loop-place-preserved : goal.loop-place-preserved
loop-place-preserved c = let l = c.loop-place in
    let rs = c.args.records.now in
    elim c.if-has_token.branch [
      | then-has_token w ↦
          let e = held_is l.tokens l.place (some_held _ (sym c.has_token.ensures ∙ w.if-has_token.true)) in
          rw w.tokens-is (renumbered_more rs _ l.tokens l.place l.invariant w.new_number.result (omega arith) (get_or l.tokens (l.place * 4) 0) e w.new_number.ensures)
      | else-has_token w ↦
          rw w.tokens-is (renumbered_skip rs _ _ _ l.invariant (none_held _ (sym c.has_token.ensures ∙ w.if-has_token.false)))
    ]
