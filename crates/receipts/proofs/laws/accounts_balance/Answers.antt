use Rattle.receipts.proofs.Accounts.{accounts_balance}
use Rattle.receipts.proofs.laws.accounts_balance.Goals as goal

pub returns : goal.returns
returns c = accounts_balance
