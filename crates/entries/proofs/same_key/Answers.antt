-- Hash and number are compared in the entry's place.
use Rattle.entries.specs.Laws.{other_hash, same_hash}
use Rattle.entries.proofs.same_key.Goals as goal

pub returns-then-b-hashes : goal.returns-then-b-hashes
returns-then-b-hashes c = other_hash _ _ _ c.args.b c.requires.0 c.if-b-hashes.true

pub returns : goal.returns
returns c = same_hash _ _ _ c.args.b c.requires.0 c.if-b-hashes.false
