use Rattle.std.proofs.Common.{sym, ap, ◌∙◌, arith}
use Rattle.lists.specs.Lists.{listed}
use Rattle.receipts.specs.Stores.{nth_row}
use Rattle.stores.proofs.Places.{first_place}
use Rattle.sorted.specs.Model.{held}
use Rattle.sorted.proofs.Changes.{place_told}
use Rattle.sorted.proofs.table.calls.SortedStoreStore.first_from.Goals as goal

pub returns : goal.returns
returns c =
    let s = c.args.self.now in
    let here = place_told c.args.id c.place_of.result (listed s.rows) _ c.as_slice.ensures s.rising c.place_of.ensures.place in
    c.row_at.ensures ∙ ap (λ n. nth_row n (held s)) (omega (arith, here)) ∙ sym (first_place c.args.id (held s))
