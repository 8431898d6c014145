-- What a hashed store means.
--     held s                      the rows that the store s holds
use Rattle.std.specs.Prelude.{List}
use Rattle.lists.specs.Lists.{listed}
use Rattle.rows.specs.Rows.{Plain}
use Rattle.tables.specs.Tables.{cells}
use Rattle.hashed.specs.declared.store.HashedStore.{HashedStore}
use Rattle.hashed.specs.Listing.{slots, rows_in}

abbrev pub held : HashedStore → List Plain
held s = rows_in (cells s.table) (slots (listed s.entries))
