use Rattle.std.proofs.Common.{arith}
use Rattle.binary.proofs.Left.{numbers_len, put_numbers_more}
use Rattle.binary.proofs.spelling.put_numbers.Goals as goal

pub loop-n-preserved : goal.loop-n-preserved
loop-n-preserved c =
    let ns = c.args.numbers.now in
    let i = c.loop-n.n-index in
    let l = numbers_len ns i (omega arith) in
    let m = put_numbers_more ns i c.loop-n.out c.loop-n.place (omega arith) in
    (omega arith, cc)
