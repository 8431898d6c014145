use Rattle.receipts.proofs.Receipts.{receipts_determined}
use Rattle.receipts.proofs.laws.receipts_are_determined.Goals as goal

pub returns : goal.returns
returns c = receipts_determined
