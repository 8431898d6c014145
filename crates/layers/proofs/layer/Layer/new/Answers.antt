use Rattle.layers.proofs.Lawful.{layer_lawful}
use Rattle.layers.proofs.layer.Layer.new.Goals as goal

pub returns-clause-lawful : goal.returns-clause-lawful
returns-clause-lawful g c =
    let below = c.args.below in
    layer_lawful (g.R.RowRule.rule c.args.rule g.S.Payload.Payload.kind) (g.S.Source.rules below) (g.S.Source.foot below)
    (g.S.Source.stream below) (g.S.Source.piled below) (g.S.Source.keep below) (g.R.RowRule.keeps c.args.rule g.S.Payload.Payload.kind)
