use Rattle.std.proofs.Common.{sym, ap, ◌∙◌, arith}
use Rattle.receipts.specs.Stores.{nth_row}
use Rattle.stores.proofs.Places.{first_place}
use Rattle.hashed.specs.Model.{held}
use Rattle.hashed.proofs.store.calls.HashedStoreStore.first_from.Goals as goal

pub returns : goal.returns
returns c =
    let m = held c.args.self.now in
    c.row_at.ensures ∙ ap (λ n. nth_row n m) (omega (arith, c.place.ensures)) ∙ sym (first_place c.args.id m)
