use Rattle.std.proofs.Common.{sym, ◌∙◌, rules}
use Rattle.tables.proofs.Search.{sought_slot}
use Rattle.tables.proofs.Steps.{ends, row_there, sought_none, sought_some}
use Rattle.tables.proofs.table.Table.slot_of.Goals as goal

pub returns-in_err-slot : goal.returns-in_err-slot
returns-in_err-slot c =
    let t = c.args.self.now in
    let told = c.in_err-slot.ensures (ends c.args.id) (λ s b h. search rules) in
    c.from_residual.ensures ∙ sought_none c.args.id t.slots told ∙ sought_slot t.slots t.reached c.args.id

pub returns : goal.returns
returns c =
    let t = c.args.self.now in
    let told = c.in_ok-slot.ensures (ends c.args.id) (λ s b h. search rules) in
    c.and.ensures ∙ row_there t.slots _ _ c.row_in.ensures ∙ sym (sought_some c.args.id t.slots _ told) ∙ sought_slot t.slots t.reached c.args.id
