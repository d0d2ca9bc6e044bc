-- No place so far has its words.
use Rattle.std.proofs.Common.{◌≡◌, ℕ, ◌-◌, ◌<◌, ◌≤◌, false}
use Rattle.kept_readings.specs.Kept.{kept_read_in, same_kept}
use Rattle.kept_readings.proofs.find_kept.Given as goal

abbrev pub invariant-loop-i : goal.invariant-loop-i
invariant-loop-i l =
    (l.i ≤ l.n) × ((j : ℕ) → j < l.i → same_kept l.k (kept_read_in l.hashes l.links l.sums j) ≡ false)

abbrev pub decreases-loop-i : goal.decreases-loop-i
decreases-loop-i l =
    l.n - l.i
