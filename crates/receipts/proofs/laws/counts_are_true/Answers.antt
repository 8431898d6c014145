use Rattle.receipts.proofs.Receipts.{counts_true}
use Rattle.receipts.proofs.laws.counts_are_true.Goals as goal

pub returns : goal.returns
returns c = counts_true
