-- `refusal_lines::put_place` meets its contract, variant by variant.
use Rattle.decimals.specs.Stored.{stored_more}
use Rattle.refusal_lines.specs.Line.{text, numbered, place_text}
use Rattle.refusal_lines.proofs.put_place.Goals as goal

pub returns-in-AtArc : goal.returns-in-AtArc
unfolding text place_text
returns-in-AtArc c =
    let told = c.in-AtArc in
    rw told.is (stored_more (numbered (text " state ") told.state) (numbered (text " arc ") told.arc) c.put_number-next.ensures c.put_number.ensures)
