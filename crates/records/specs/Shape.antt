-- What safety asks of the first n records. It speaks of no history: what a store stands for implies it.
use Rattle.std.specs.Prelude.{ℕ, ◌≤◌, ◌<◌}
use Rattle.records.specs.History.{History}
use Rattle.records.specs.Layout.{Store, rec_at, Room, prev_at, kept_at}
use Rattle.records.specs.Stands.{Stands}

pub record Shape (s : Store) (n : ℕ) : Type 0 where
  pub room : Room s n
  pub prev_low : (k : ℕ) → k < n → prev_at s.records k ≤ k
  pub kept_low : (k : ℕ) → k < n → kept_at s.records k ≤ k

pub shape_of : (s : Store) (n : ℕ) (h : ℕ → History) → Room s n → Stands s n h → Shape s n
unfolding rec_at
shape_of s n h r ok = record { room = r; prev_low = λ k l. (ok.each k l).prev_low; kept_low = λ k l. (ok.each k l).kept_low }
