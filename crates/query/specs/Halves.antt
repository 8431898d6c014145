-- The answer of a side of a query as the model has it.
--     half_outcome a h            the answer a to an event, and the half that it leaves
use Rattle.std.specs.Prelude.{Result}
use Rattle.refusals.specs.declared.refusal.Refusal.{Refusal}
use Rattle.receipts.specs.Queries.{Half}
use Rattle.receipts.specs.Stores.{Outcome}

abbrev pub half_outcome : Result (Unit {0}) Refusal → Half → Outcome Half
half_outcome a h = record { answer = a; after = h }
