use Rattle.std.proofs.Common.{sym, ap, ◌∙◌}
use Rattle.receipts.specs.Stores.{nth_row}
use Rattle.stores.specs.Told.{seen}
use Rattle.stores.proofs.Places.{found_at_place, found_nothing}
use Rattle.sorted.specs.Model.{held}
use Rattle.sorted.proofs.Changes.{some_told, none_told}
use Rattle.sorted.proofs.table.calls.SortedStoreStore.get.Goals as goal

pub returns-in_err-ok : goal.returns-in_err-ok
returns-in_err-ok c =
    let m = held c.args.self.now in
    ap seen c.from_residual.ensures ∙ sym (found_nothing c.args.id m (none_told c.args.id m _ c.find.ensures c.in_err-ok.ensures.value))

pub returns : goal.returns
returns c =
    let s = c.args.self.now in
    let told = some_told c.args.id (held s) _ c.find.ensures _ c.in_ok-ok.ensures.value in
    c.row_at.ensures ∙ ap (λ n. nth_row n (held s)) told.1 ∙ sym (found_at_place c.args.id (held s) s.rising told.0)
