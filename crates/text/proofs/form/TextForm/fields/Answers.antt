use Rattle.std.proofs.Common.{Ok, Err, ap, ◌∙◌}
use Rattle.std.proofs.lemmas.Result.{err_from_is_err_and}
use Rattle.refusals.specs.Parts.{told}
use Rattle.text.specs.Text.{text_read}
use Rattle.text.specs.Lines.{line_of}
use Rattle.text.proofs.Skips.{line_faults}
use Rattle.text.proofs.LineCuts.{line_done, line_refused}
use Rattle.text.proofs.form.TextForm.fields.Goals as goal

pub returns-in_err-past_line : goal.returns-in_err-past_line
returns-in_err-past_line c =
    let bs = c.args.bytes.now in
    let why = c.in_err-past_line.field-0.0 in
    let err = err_from_is_err_and c.from_residual.result c.from_residual.ensures.1 in
    ap told err.1 ∙ ap Err err.2 ∙ line_refused (text_read bs) why (line_faults bs (Err why) c.in_err-past_line.ensures)

pub returns : goal.returns
returns c =
    let bs = c.args.bytes.now in
    line_done bs (line_of c.line.result.0) c.line.result.1.now c.fields_of.result
    (line_faults bs (Ok c.in_ok-past_line.field-0) c.in_ok-past_line.ensures) c.line.ensures c.fields_of.ensures
