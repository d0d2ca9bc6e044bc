-- The fuel of the definition's queue is no limit: on every accepted graph `drain` is the Rust's loop, and leaves an empty queue. Assumes nothing.
use Rattle.std.specs.Prelude.{◌≡◌, get_or}
use Prim.Native.Nat.{ℕ}
use Rattle.std.proofs.Math.Option.{none}
use mathlib.Core.List.{List, [], ◌∷◌}
use Rattle.model.specs.Basics.{Outcome, ok, refused}
use Rattle.model.specs.Arrive.{Here, Work}
use Rattle.model.specs.Passes.{push_from, popped, expand}
use Rattle.model.specs.Accepted.{Ok}

-- ---- the loop: the Rust's `while let Some(s) = self.queue.pop()`, with no count of its turns

pub data Loops (h : Here) : Work → Outcome Work → Type 0 where
  loop_ends : {w : Work} → w.queue ≡ [] → Loops h w (ok w)
  loop_refused : {w : Work} (s : ℕ) (q : List ℕ) (n : ℕ) → w.queue ≡ s ∷ q → expand h s (get_or w.table s none) (popped w q) ≡ refused n → Loops h w (refused n)
  loop_turns : {w : Work} {o : Outcome Work} (s : ℕ) (q : List ℕ) (v : Work) → w.queue ≡ s ∷ q → expand h s (get_or w.table s none) (popped w q) ≡ ok v → Loops h v o → Loops h w o

-- the pass: the pushes, and then the loop
pub data Runs (h : Here) (w : Work) : Outcome Work → Type 0 where
  run_refused : (n : ℕ) → push_from h 0 w.table w ≡ refused n → Runs h w (refused n)
  run_loops : {o : Outcome Work} (v : Work) → push_from h 0 w.table w ≡ ok v → Loops h v o → Runs h w o

abbrev pub Emptied : Outcome Work → Type 0
Emptied o = Ok (λ (v : Work). v.queue ≡ []) o
