-- Put or left.
use Rattle.std.proofs.Common.{refl}
use Rattle.kept_readings.specs.Heads.{not_kept, is_kept}
use Rattle.kept_readings.proofs.keep_if.Goals as goal

pub returns-then-kept : goal.returns-then-kept
returns-then-kept c = is_kept c.if-kept.true refl refl

pub returns : goal.returns
returns c = not_kept c.if-kept.false refl refl
