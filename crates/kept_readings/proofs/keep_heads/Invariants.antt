-- The first m are the heads so far.
use Rattle.std.proofs.Common.{ℕ, ◌-◌, ◌≤◌, List}
use lib.Ieee.{Float}
use Rattle.records.specs.History.{History}
use Rattle.records.specs.Layout.{store}
use Rattle.records.specs.Stands.{Stands}
use Rattle.kept_readings.specs.Heads.{is_head}
use Rattle.kept_readings.specs.Steps.{KeepTo}
use Rattle.kept_readings.proofs.keep_heads.Given as goal

abbrev pub invariant-loop-i : goal.invariant-loop-i
invariant-loop-i l =
    (l.i ≤ l.n) × KeepTo ((gs : List Float) × (h : ℕ → History) × Stands (store l.records l.labels gs) l.used h) (λ w. is_head w.1 l.tokens l.sums l.finals l.side l.counts l.bound) l.initial.heads l.heads l.m l.i

abbrev pub decreases-loop-i : goal.decreases-loop-i
decreases-loop-i l =
    l.n - l.i
