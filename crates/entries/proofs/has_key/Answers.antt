-- None so far has the words.
use Rattle.std.proofs.Common.{subst}
use Rattle.entries.specs.Entries.{SameKeyIs}
use Rattle.entries.specs.Laws.{key_found, key_next}
use Rattle.entries.proofs.has_key.Goals as goal

pub returns-then-same_key : goal.returns-then-same_key
returns-then-same_key c = key_found c.args.b c.loop-e.invariant c.loop-e-test.true (subst (SameKeyIs c.args.hashes.now c.args.nexts.now c.loop-e.e c.args.b) c.if-same_key.true c.same_key.ensures)

pub loop-e-preserved : goal.loop-e-preserved
loop-e-preserved c = key_next c.args.b c.loop-e.invariant c.loop-e-test.true (subst (SameKeyIs c.args.hashes.now c.args.nexts.now c.loop-e.e c.args.b) c.if-same_key.false c.same_key.ensures)
