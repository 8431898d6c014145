use Rattle.receipts.proofs.Queries.{rows_sound}
use Rattle.receipts.proofs.laws.rows_are_sound.Goals as goal

pub returns : goal.returns
returns c = rows_sound
