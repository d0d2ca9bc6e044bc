-- The least of nine.
use Rattle.checks.proofs.Least.{first, turn}
use Rattle.checks.proofs.fewest_per_state.Goals as goal

pub returns : goal.returns
returns c =
    let of_five = turn _ _ _ (turn _ _ _ (turn _ _ _ (turn _ _ _ c.min-8.ensures c.min-7.ensures) c.min-6.ensures) c.min-5.ensures) c.min-4.ensures in
    first _ _ (turn _ _ _ (turn _ _ _ (turn _ _ _ of_five c.min-3.ensures) c.min-2.ensures) c.min.ensures)
