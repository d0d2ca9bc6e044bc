-- `refusal_lines::put_name` meets its contract.
use Rattle.std.proofs.Common.{◌≡◌, List, ◌++◌, ℕ, subst, ◌∙◌}
use Rattle.decimals.specs.Stored.{Stored, stored_more}
use Rattle.refusal_lines.specs.Line.{text, bare_name, name_of}
use Rattle.refusal_lines.proofs.put_name.Goals as goal

pub returns : goal.returns
unfolding name_of text
returns c =
    let name = bare_name c.args.number in
    let end = c.put-end in
    let e : c.as_bytes.result.now ≡ name = c.as_bytes.ensures.value ∙ c.bare_name.ensures in
    let named = subst (λ (part : List ℕ). Stored c.put-start.new.out c.put-start.result part end.result end.new.out) e end.ensures in
    stored_more (text " " ++ name) (text ";") (stored_more (text " ") name c.put-start.ensures named) c.put.ensures
