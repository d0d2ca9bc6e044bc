-- `decimals::numbers_in` meets its contract: the numbers of all bytes are those of the bytes not yet passed, after those found.
use mathlib.Core.Path.{◌≡◌}
use lib.ListN.{drop}
use Rattle.decimals.specs.Numbers.{numbers_in, numbers_from}
use Rattle.decimals.proofs.numbers_in.Given as goal

abbrev pub invariant-loop-byte : goal.invariant-loop-byte
invariant-loop-byte l = numbers_in l.bytes ≡ numbers_from l.found (drop l.byte-index l.bytes)
