-- Both.

use Rattle.listing.proofs.is_listing.Goals as goal

pub returns-then-keeps : goal.returns-then-keeps
returns-then-keeps c = rw c.if-keeps.true
