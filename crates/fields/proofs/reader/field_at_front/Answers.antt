use Rattle.std.proofs.Common.{◌≡◌, ◌∙◌, Err, Ok, ap, rules, sym}
use Rattle.std.specs.Result.{result_and}
use Rattle.fields.proofs.Framing.{read_framed, read_unframed}
use Rattle.fields.specs.Read.{bytes_in, read_field}
use Rattle.fields.proofs.reader.field_at_front.Goals as goal
use Rattle.fields.proofs.reader.field_at_front.Goals.{After-check_value}

pub returns-in_err-tag : goal.returns-in_err-tag
returns-in_err-tag c =
    let why : c.from_residual.result ≡ Err c.in_err-tag.field-0.0 = search rules in
    why ∙ read_unframed c.args.part.now _ (sym c.frame_of.ensures ∙ ap bytes_in c.in_err-tag.was)

-- what the checks of the value said, as an answer of reading
checked : (c : After-check_value) → result_and c.check_value.result (Ok c.field_of-field.result) ≡ read_field c.args.part.now
checked c =
    read_framed c.args.part.now _ _ _ c.field_of-field.result c.check_value.result (sym c.frame_of.ensures ∙ ap bytes_in c.in_ok-tag.was) c.row_of-row.ensures c.field_of-field.ensures c.check_value.ensures

pub returns-in_err-check_value : goal.returns-in_err-check_value
returns-in_err-check_value c =
    let why : c.from_residual-in_err-check_value.result ≡ Err c.in_err-check_value.field-0.0 = search rules in
    why ∙ rw c.in_err-check_value.was at (checked (goal.at.returns-in_err-check_value c).After-check_value)

pub returns : goal.returns
returns c = rw c.in_ok-check_value.was at (checked (goal.at.returns c).After-check_value)
