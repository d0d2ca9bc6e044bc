-- `refusal_lines::compose` meets its contract: the parts behind each other are the line, which fits 96 bytes.
use mathlib.Core.Path.{sym, ◌∙◌}
use native.Mathlib.Omega.{arith}
use Rattle.decimals.specs.Stored.{stored_more}
use Rattle.refusal_lines.specs.Line.{text, numbered, name_of, place_text, heading, line_of}
use Rattle.refusal_lines.proofs.Laws.{name_length, numbered-length, place-length}
use Rattle.refusal_lines.proofs.compose.Goals as goal

pub put_number-named-requires : goal.put_number-named-requires
unfolding text
put_number-named-requires c = omega (arith, numbered-length (text "refusal ") c.args.refusal.number)

pub put_name-placed-requires : goal.put_name-placed-requires
unfolding text
put_name-placed-requires c = let n = c.args.refusal.number in omega (arith, numbered-length (text "refusal ") n, name_length n)

pub put_place-requires : goal.put_place-requires
unfolding text
put_place-requires c =
    let x = c.args.refusal in
    omega (arith, numbered-length (text "refusal ") x.number, name_length x.number, place-length x.place)

pub returns : goal.returns
unfolding line_of heading text
returns c =
    let call = c.may_have in
    let x = c.args.refusal in
    let n = x.number in
    rw (sym call.ensures ∙ c.if-not-may_have.false)
    (stored_more (heading n) (place_text x.place) (stored_more (numbered (text "refusal ") n) (name_of n) c.put_number-named.ensures c.put_name-placed.ensures) c.put_place.ensures)
