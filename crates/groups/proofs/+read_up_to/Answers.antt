use Rattle.std.proofs.Common.{ap, ◌∙◌, arith, rules}
use Rattle.std.proofs.lemmas.Result.{err_from_is_err_and}
use Rattle.std.proofs.lemmas.Slice.{first_rest}
use Rattle.refusals.specs.Parts.{told}
use Rattle.groups.proofs.Reading.{read_more_fault, small_last, small_more, more_fits}
use Rattle.groups.proofs.+read_up_to.Goals as goal

pub returns-then-group-lt128-clause-small : goal.returns-then-group-lt128-clause-small
returns-then-group-lt128-clause-small t c = small_last c.args.left _ c.if-left-eq0.false c.if-group-lt128.true

pub returns-in_err-above-clause-value : goal.returns-in_err-above-clause-value
returns-in_err-above-clause-value t c =
    let e = first_rest c.args.bytes.now 0 (search rules) in
    let exit = err_from_is_err_and c.from_residual.result c.from_residual.ensures.1 in
    let fault = read_more_fault c.args.left _ _ _ e c.if-left-eq0.false (omega arith) _ c.in_err-above.ensures.value in
    ap told exit.1 ∙ cc

pub overflow_mul-result : goal.overflow_mul-result
overflow_mul-result t c =
    let m = more_fits c.args.left _ _ c.requires c.if-left-eq0.false (c.type_inv.bytes 0).fits c.in_ok-above.ensures.small in
    omega arith

pub overflow_add-result : goal.overflow_add-result
overflow_add-result t c =
    let m = more_fits c.args.left _ _ c.requires c.if-left-eq0.false (c.type_inv.bytes 0).fits c.in_ok-above.ensures.small in
    omega arith

pub returns-clause-small : goal.returns-clause-small
returns-clause-small t c =
    rw c.from-group.ensures (small_more c.args.left _ _ c.if-left-eq0.false (c.type_inv.bytes 0).fits c.in_ok-above.ensures.small)
