use Rattle.std.proofs.Common.{◌≡◌, Some, Err, rules}
use Rattle.query.specs.Queries.{setup, state}
use Rattle.run.proofs.CloseOnce.{refusal_of, lines_full}
use Rattle.run.proofs.turning.Run.close_once.Goals as goal

pub returns-in_err-window-clause-value : goal.returns-in_err-window-clause-value
returns-in_err-window-clause-value g c =
    let why = c.in_err-window.field-0.0 in
    let is : refusal_of c.close_from.result ≡ Some why = search rules in
    let told : c.from_residual.result ≡ Err why = search rules in
    rw told (lines_full (setup c.args.self.now.query) (state c.args.self.now.query) c.args.lines.now c.args.windows.now
    c.args.self.now.written.lines c.args.self.now.written.windows c.requires.due c.requires.fits.0 (state c.close_from.new.query) c.close_from.new.lines
    c.close_from.ensures.earlier c.close_from.result why is c.close_from.ensures.call.0 c.if-windows-self.false)
