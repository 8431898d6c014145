use Rattle.std.proofs.Common.{length, take, drop, ap, ◌∙◌}
use Rattle.std.specs.Option.{unwrap_or}
use Rattle.text.proofs.Cuts.{front_cut, back_cut}
use Rattle.text.proofs.lexer.cut.Goals as goal

pub returns : goal.returns
returns c =
    let xs = c.args.bytes.now in
    let at = c.unwrap_or-at.ensures ∙ ap (λ o. unwrap_or o (length xs)) c.part_place.ensures in
    record {
      front = c.split_at.ensures.front ∙ ap (λ n. take n xs) at ∙ front_cut xs;
      back = c.split_at.ensures.back ∙ ap (λ n. drop n xs) at ∙ back_cut xs;
    }
