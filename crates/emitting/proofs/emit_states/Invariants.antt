-- The states below s are done; the rest is what the definition does with the other states.
use mathlib.Core.Path.{◌≡◌}
use Prim.Native.Nat.{◌-◌, ◌≤◌, ◌<◌}
use lib.ListN.{length}
use Rattle.tokens.specs.Layout.{place_in, held_at}
use Rattle.stores.specs.Rep.{lent, Lens}
use Rattle.arcs.specs.State.{tables}
use Rattle.emitting.specs.Emit.{EmitGiven, SoFar}
use Rattle.emitting.proofs.emit_states.Given as goal

abbrev pub invariant-loop-s : goal.invariant-loop-s
invariant-loop-s l =
    (l.s ≤ l.setting.states) × (l.s < l.setting.states → (held_at l.tokens (place_in (1 - l.setting.side) l.s) ≡ 0 → ⊥)) × Lens (lent l.initial.tokens l.initial.sums l.initial.records l.initial.labels l.initial.gaps) (lent l.tokens l.sums l.records l.labels l.gaps) × (length l.queue ≡ length l.initial.queue) ×
    ((G : EmitGiven l.setting (lent l.initial.tokens l.initial.sums l.initial.records l.initial.labels l.initial.gaps) l.initial.queue l.eps l.pass (tables l.offsets l.ilabels l.olabels l.weights l.nextstates l.tid2pdf l.tid2phone l.loglikes) l.initial.w) → SoFar G l.cut (lent l.tokens l.sums l.records l.labels l.gaps) l.queue l.w l.s)

abbrev pub decreases-loop-s : goal.decreases-loop-s
decreases-loop-s l =
    l.setting.states - l.s
