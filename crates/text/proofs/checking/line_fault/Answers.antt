use Rattle.std.proofs.Common.{◌∙◌}
use Rattle.text.proofs.Skips.{line_faults}
use Rattle.text.proofs.checking.line_fault.Goals as goal

pub returns : goal.returns
returns c = c.err.ensures.value ∙ line_faults c.args.bytes.now _ c.past_line.ensures
