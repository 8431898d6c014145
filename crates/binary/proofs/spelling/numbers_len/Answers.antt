use Rattle.std.proofs.Common.{◌≡◌, length, refl, rules, arith}
use Rattle.std.specs.List.{sum_by}
use Rattle.std.proofs.lemmas.List.{length-append}
use Rattle.std.proofs.lemmas.List.Recursion.{is_sum_by}
use Rattle.std.proofs.lemmas.List.Sums.{sum_by-le}
use Rattle.groups.specs.Groups.{groups_of}
use Rattle.groups.proofs.Writing.{groups_few}
use Rattle.binary.specs.Writing.{all_groups}
use Rattle.binary.proofs.spelling.numbers_len.Goals as goal

pub returns : goal.returns
returns c =
    let ns = c.args.numbers.now in
    let s : c.sum.result ≡ sum_by (λ n. length (groups_of n)) ns = search rules in
    let all = is_sum_by (λ xs. length (all_groups xs)) (λ n. length (groups_of n)) refl (λ n xs. length-append (groups_of n) (all_groups xs)) ns in
    let most = sum_by-le (λ n. length (groups_of n)) 5 ns (λ i d h. groups_few _) in
    record { value = omega arith; few = omega arith }
