-- Each field is read at its place.
use Rattle.tokens.specs.Layout.{cell_at}
use Rattle.tokens.proofs.token_at.Goals as goal

pub returns : goal.returns
unfolding cell_at
returns c = rw c.link_at.ensures
