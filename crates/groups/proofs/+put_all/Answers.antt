use Rattle.std.proofs.Common.{length, sym, ap, ◌∙◌, arith}
use Rattle.std.proofs.lemmas.List.{length-set}
use Rattle.groups.specs.Puts.{put_all}
use Rattle.groups.proofs.Writing.{groups_of_last, groups_of_more, groups_some}
use Rattle.groups.proofs.+put_all.Goals as goal

pub bounds-out-at : goal.bounds-out-at
bounds-out-at t c = let some = groups_some c.args.n in omega arith

pub returns-then-n-lt128 : goal.returns-then-n-lt128
returns-then-n-lt128 t c =
    let e = groups_of_last c.args.n c.if-n-lt128.true in
    let l = ap length e in
    record { place = omega arith; after = sym (ap (put_all c.args.out.now c.args.at) e) }

pub bounds-out-at-2 : goal.bounds-out-at-2
bounds-out-at-2 t c = let some = groups_some c.args.n in omega arith

pub put_all-requires : goal.put_all-requires
put_all-requires t c =
    let l = ap length (groups_of_more c.args.n c.if-n-lt128.false c.ranges.n.fits) in
    (omega arith, simp length-set (omega arith))

pub returns : goal.returns
returns t c =
    let e = groups_of_more c.args.n c.if-n-lt128.false c.ranges.n.fits in
    let l = ap length e in
    record { place = omega arith; after = c.put_all.ensures.after ∙ sym (ap (put_all c.args.out.now c.args.at) e) }
