-- Of what the last call left, a start asks only what does not change.
use Rattle.decoder.specs.Frame.{begin_from}
use Rattle.decoder.proofs.start.Goals as goal

pub begin_within-requires : goal.begin_within-requires
begin_within-requires c = record { g = c.requires.g; c = c.requires.c; l = c.requires.l; st = c.requires.st; is = begin_from c.requires.is }

pub returns : goal.returns
returns c = record { answer = λ g s l fs st R. c.begin_within.ensures.0 g s l st (begin_from R); lent = record { stores = record { tokens = c.begin_within.auto.tokens; sums = c.begin_within.auto.sums; records = c.begin_within.auto.records; labels = c.begin_within.auto.labels; gaps = c.begin_within.auto.gaps }; behind = c.begin_within.ensures.1; queue = record { same_length = c.begin_within.auto.queue } } }
