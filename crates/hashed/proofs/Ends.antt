-- A row whose end is set.
use Rattle.std.proofs.Common.{◌≡◌, ℕ, List, get_or, set, Some, None, Ok, Err, Option, sym, ap, ◌∙◌}
use Rattle.std.proofs.lemmas.Bool.{false≢true}
use Rattle.lists.specs.Lists.{listed}
use Rattle.refusals.specs.declared.refusal.Refusal.{Refusal}
use Rattle.rows.specs.declared.span.Span.{Span}
use Rattle.rows.specs.Rows.{Plain, with_end}
use Rattle.rows.specs.Spans.{times, span_made}
use Rattle.rows.specs.Times.{lawful}
use Rattle.receipts.specs.Stores.{found, accept, refuse, sets}
use Rattle.stores.specs.Places.{has_id}
use Rattle.stores.proofs.Outcomes.{sets_bad, sets_done}
use Rattle.stores.proofs.Spans.{span_good, span_bad}
use Rattle.tables.specs.declared.table.Table.{Table}
use Rattle.tables.specs.Cells.{slot_of, spanned}
use Rattle.tables.specs.Tables.{cells}
use Rattle.tables.proofs.Found.{slot_of_has}
use Rattle.hashed.specs.declared.store.HashedStore.{HashedStore}
use Rattle.hashed.specs.Listing.{slots, or_blank, row_in, rows_in}
use Rattle.hashed.specs.Model.{held}
use Rattle.hashed.proofs.Changes.{found_at}
use Rattle.hashed.proofs.State.{good_of}
use Rattle.hashed.proofs.Updates.{Kept, end_kept, end_rows}

module _ (s : HashedStore) (id i : ℕ) (here : slot_of id (cells s.table) ≡ Some i) where
  abbrev cs : List (Option Plain)
  cs = cells s.table

  pub slot_held : None ≡ get_or cs i None → ⊥
  slot_held e = false≢true (ap (has_id id) e ∙ slot_of_has id cs i here)

  -- the row x stands in the slot, and start is its start
  module _ (x : Plain) (read : Some x ≡ get_or cs i None) (start e : ℕ) (started : start ≡ x.start) where
    row_told : found id (held s) ≡ Some x
    row_told = found_at cs _ _ (good_of s) id i here ∙ sym read

    pub end_refused : (why : Refusal) → Err why ≡ span_made start e → refuse why (held s) ≡ sets id e (held s)
    end_refused why told =
        let bad = span_bad start e why told in
        ap (λ z. refuse z (held s)) bad.1 ∙ sets_bad id (held s) e x row_told (ap (λ n. lawful n e) (sym started) ∙ bad.0)

    module _ (span : Span) (made : Ok (times span) ≡ span_made start e) (t : Table) (told : cells t ≡ set cs i (spanned span.start span.end (get_or cs i None))) where
      ended : cells t ≡ set cs i (Some (with_end e (row_in cs i)))
      ended =
          let good = span_good start e (times span) made in
          let here : row_in cs i ≡ x = ap or_blank (sym read) in
          let cell : spanned span.start span.end (get_or cs i None) ≡ Some (with_end e x) =
          ap (spanned span.start span.end) (sym read)
          ∙ ap (λ n. spanned n span.end (Some x)) (good.1 ∙ started) ∙ ap (λ n. spanned x.start n (Some x)) good.2 in
          told ∙ ap (set cs i) (cell ∙ ap (λ z. Some (with_end e z)) (sym here))

      pub set_kept : Kept t (listed s.entries)
      set_kept = end_kept s t id i here e ended

      pub set_done : accept (rows_in (cells t) (slots (listed s.entries))) ≡ sets id e (held s)
      set_done =
          ap accept (end_rows s t id i here e ended)
          ∙ sets_done id (held s) e x row_told (ap (λ n. lawful n e) (sym started) ∙ (span_good start e (times span) made).0)
