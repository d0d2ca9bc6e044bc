-- One token put, or none.
use Rattle.store_cases.proofs.Keeps.{held_put, held_kept}
use Rattle.store_cases.proofs.hold.Goals as goal

pub returns-then-place-lt16 : goal.returns-then-place-lt16
returns-then-place-lt16 c = held_put _ _ _ _ _ _ c.put_token.ensures

pub returns-else-place-lt16 : goal.returns-else-place-lt16
returns-else-place-lt16 c = held_kept _ _
