-- It is there already, or has no place, or is put at the end.
use Rattle.std.proofs.Common.{sym, refl, ◌∙◌, arith}
use Rattle.entries.specs.Entries.{was_present, was_full, was_put}
use Rattle.entries.proofs.put_new.Goals as goal

pub returns-then-has_key : goal.returns-then-has_key
returns-then-has_key c = was_present (sym (c.has_key.ensures c.args.sums.now) ∙ c.if-has_key.true) refl refl refl

pub returns-then-places-to : goal.returns-then-places-to
returns-then-places-to c = was_full (sym (c.has_key.ensures c.args.sums.now) ∙ c.if-has_key.false) c.if-places-to.true refl refl refl

pub returns : goal.returns
returns c = was_put (sym (c.has_key.ensures c.args.sums.now) ∙ c.if-has_key.false) (let z = c.if-places-to.false in omega arith) c.put_entry.ensures
