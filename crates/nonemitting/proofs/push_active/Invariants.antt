-- The states below s are done; the rest is what the definition does with the other states.
use mathlib.Core.Path.{◌≡◌}
use mathlib.Core.List.{List}
use Prim.Native.Nat.{ℕ, ◌-◌, ◌≤◌, ◌<◌}
use lib.IntN.{ℤ}
use lib.ListN.{length}
use lib.Ieee.{Float}
use Rattle.tokens.specs.Layout.{place_in, held_at}
use Rattle.stores.specs.Rep.{lent}
use Rattle.nonemitting.specs.Pushes.{PushGiven, SoFar}
use Rattle.nonemitting.proofs.push_active.Given as goal

abbrev pub invariant-loop-s : goal.invariant-loop-s
invariant-loop-s l =
    (l.s ≤ l.setting.states) × (length l.queue ≡ length l.initial.queue) × (l.s < l.setting.states → (held_at l.tokens (place_in l.setting.side l.s) ≡ 0 → ⊥)) ×
    ((sm : List Float) (rs : List ℕ) (rl : List ℤ) (gs : List Float) (G : PushGiven l.setting (lent l.tokens sm rs rl gs) l.initial.queue l.eps l.initial.w) → SoFar G l.queue l.w l.s)

abbrev pub decreases-loop-s : goal.decreases-loop-s
decreases-loop-s l =
    l.setting.states - l.s
