-- No mark, then the roots' marks, then all that they reach.
use Rattle.compaction.proofs.Marking.{same_prev, same_kept_lem, live_marked}
use native.Mathlib.Omega.{arith}
use Rattle.compaction.proofs.mark_live.Goals as goal

pub spread-requires : goal.spread-requires
spread-requires c =
    let m = c.mark in
    let h = c.mark_held in
    let e = c.clear_marks in (
      omega (arith, c.requires.room, m.auto.records, h.auto.records, e.auto.records),
      λ k l. omega (arith, c.requires.prev_low k l, same_prev _ _ m.ensures.same k, same_prev _ _ h.ensures.same k, same_prev _ _ e.ensures.same k),
      λ k l. omega (arith, c.requires.kept_low k l, same_kept_lem _ _ m.ensures.same k, same_kept_lem _ _ h.ensures.same k, same_kept_lem _ _ e.ensures.same k),
    )

pub returns : goal.returns
returns c =
    live_marked _ _ _ _ _ c.args.tokens.now _ _ _ c.clear_marks.ensures c.mark_held.ensures c.mark.ensures c.spread.ensures
