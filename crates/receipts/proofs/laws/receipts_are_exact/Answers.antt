use Rattle.receipts.proofs.Receipts.{receipts_exact}
use Rattle.receipts.proofs.laws.receipts_are_exact.Goals as goal

pub returns : goal.returns
returns c = receipts_exact
