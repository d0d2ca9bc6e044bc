-- `fst::fill_eps` meets its contract. The invariant: the table is filled below the state, and behind it unchanged.
use borrow.Author.Rules.{rules}
use mathlib.Core.Path.{◌∙◌, ap}
use mathlib.Core.List.{List}
use Prim.Native.Nat.{ℕ, ◌≤◌, ◌<◌}
use native.Mathlib.Omega.{arith}
use lib.ListN.{length, set}
use mir.Val.{bool_byte}
use Rattle.fst.specs.Epsilons.{bit}
use Rattle.fst.proofs.Offsets.{between}
use Rattle.fst.proofs.Epsilons.{state_epsilon, byte, bits_more}
use Rattle.fst.proofs.fill_eps.Goals.{After-first_arc-e}
use Rattle.fst.proofs.fill_eps.Goals as goal

-- where the state's arcs begin and end
part : (c : After-first_arc-e) → (c.first_arc-a.result ≤ c.first_arc-e.result) × (c.first_arc-e.result ≤ length c.args.ilabels.now)
part c = between (length c.args.ilabels.now) c.args.offsets.now c.requires.0 c.loop-s.s (omega arith) c.first_arc-a.ensures c.first_arc-e.ensures

pub slice_bounds-has_eps-count : goal.slice_bounds-has_eps-count
slice_bounds-has_eps-count c = (part c).0

pub slice_bounds-has_eps-start : goal.slice_bounds-has_eps-start
slice_bounds-has_eps-start c = (part (goal.at.slice_bounds-has_eps-start c).After-first_arc-e).0

pub slice_bounds-has_eps-end : goal.slice_bounds-has_eps-end
slice_bounds-has_eps-end c = (part (goal.at.slice_bounds-has_eps-end c).After-first_arc-e).1

pub loop-s-preserved : goal.loop-s-preserved
loop-s-preserved c =
    let l = c.loop-s in
    let a = c.args in
    let b = part (goal.at.loop-s-preserved c).After-first_arc-e in
    let h : l.s < length a.table.now = omega arith in (
      search rules,
      search rules,
      λ g p q.
          ap (λ (t : List ℕ). set t l.s (bool_byte c.has_eps.result)) (l.invariant.2 g p q) ∙
          bits_more g a.table.now l.s (bool_byte c.has_eps.result) h
          (byte c.has_eps.result ∙
          ap bit
          (c.has_eps.ensures ∙
          state_epsilon a.offsets.now a.ilabels.now l.s c.first_arc-a.result c.first_arc-e.result b.0 b.1 c.first_arc-a.ensures c.first_arc-e.ensures g p q)),
    )
