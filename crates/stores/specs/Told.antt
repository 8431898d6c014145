-- A store's rows and answers as plain numbers.
--     Numbered rows               each id is a number of 32 bits
--     Standing rows               the times of each row are lawful
--     row_of id span key value    a row that is told field by field
--     seen o                      the row that a question answers, or none
--     outcome a rows              the answer a of a call, and the rows that it leaves
use Rattle.std.specs.Prelude.{◌≡◌, ℕ, ◌≤◌, true, List, [], ◌∷◌, Some, None, Option, Result}
use Rattle.refusals.specs.declared.refusal.Refusal.{Refusal}
use Rattle.rows.specs.declared.row.PlainRow.{PlainRow}
use Rattle.rows.specs.declared.span.Span.{Span}
use Rattle.rows.specs.Rows.{Plain, plain, standing}
use Rattle.receipts.specs.Stores.{Outcome}

abbrev pub Numbered : List Plain → Type 0
Numbered [] = Unit {0}
Numbered (x ∷ xs) = (x.id ≤ 4294967295) × Numbered xs

abbrev pub Standing : List Plain → Type 0
Standing [] = Unit {0}
Standing (x ∷ xs) = (standing x ≡ true) × Standing xs

abbrev pub row_of : ℕ → Span → ℕ → ℕ → Plain
row_of id span key value = record { id = id; start = span.start; end = span.end; key = key; value = value }

abbrev pub seen : Option PlainRow → Option Plain
seen None = None
seen (Some r) = Some (plain r)

abbrev pub outcome : Result (Unit {0}) Refusal → List Plain → Outcome (List Plain)
outcome a rows = record { answer = a; after = rows }
