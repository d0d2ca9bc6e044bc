-- The steps in turn.
use Rattle.std.proofs.Common.{ap, ◌∙◌, arith}
use Rattle.entries.specs.declared.Entry.{Entry}
use Rattle.kept_readings.specs.Heads.{kept_by}
use Rattle.kept_readings.specs.Laws.{added_as}
use Rattle.kept_readings.proofs.add_entry.Goals as goal

pub kept_by-k-requires : goal.kept_by-k-requires
kept_by-k-requires c = let z = c.requires.1 in let e = ap (λ (b : Entry). b.len) c.entry_at-b.ensures in omega arith

pub returns : goal.returns
returns c = added_as c.args.bound _ (c.kept_by-k.ensures ∙ ap (kept_by c.args.c c.args.counts c.args.above c.args.e) c.entry_at-b.ensures) c.add_within.ensures
