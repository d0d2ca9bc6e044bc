-- `refusal_lines::put_number` meets its contract.
use mathlib.Core.List.{◌++◌}
use Rattle.decimals.specs.Decimal.{decimal}
use Rattle.decimals.specs.Stored.{stored_more}
use Rattle.refusal_lines.specs.Line.{text, numbered}
use Rattle.refusal_lines.proofs.put_number.Goals as goal

pub returns : goal.returns
unfolding numbered text
returns c =
    let a = c.args in
    stored_more (a.label.now ++ decimal a.number) (text ";") (stored_more a.label.now (decimal a.number) c.put-start.ensures c.write_decimal-end.ensures) c.put.ensures
