-- Links leave the gaps as they are.
use Rattle.store_cases.proofs.put_on.Goals as goal

pub returns-in-108 : goal.returns-in-108
returns-in-108 c = c.link_on.ensures.put _
