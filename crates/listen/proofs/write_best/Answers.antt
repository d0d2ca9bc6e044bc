-- `listen::write_best` is safe: the words lie within what is lent.
use native.Mathlib.Omega.{arith}
use Rattle.listen.proofs.write_best.Goals as goal

pub write_words-requires : goal.write_words-requires
write_words-requires c = let h = (rw (c.in-Ok-Some.is, c.in-Ok-Some.field-0-is) at (c.best_path.ensures c.requires).1).fits in (omega (arith, h.words, c.best_path.auto.words), omega (arith, h.frames, c.best_path.auto.frames))
