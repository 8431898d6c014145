-- What a sorted store means.
--     held s                      the rows that the store s holds
--     spot id rows                the place of the row of an id, or else the place where it would go
use Rattle.std.specs.Prelude.{ℕ, cond, List, map, Ok, Err, Result}
use Rattle.lists.specs.Lists.{listed}
use Rattle.rows.specs.Rows.{Plain, plain}
use Rattle.receipts.specs.Stores.{holds_id}
use Rattle.stores.specs.Places.{place}
use Rattle.sorted.specs.declared.table.SortedStore.{SortedStore}

abbrev pub held : SortedStore → List Plain
held s = map plain (listed s.rows)

abbrev pub spot : ℕ → List Plain → Result ℕ ℕ
spot id rows = cond (holds_id id rows) (Ok (place id rows)) (Err (place id rows))
