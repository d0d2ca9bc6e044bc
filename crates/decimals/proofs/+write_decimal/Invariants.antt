-- `decimals::write_decimal` meets its contract: the measure is the number.
use Rattle.decimals.proofs.+write_decimal.Given as goal

abbrev pub decreases-write_decimal : goal.decreases-write_decimal
decreases-write_decimal l = l.number
