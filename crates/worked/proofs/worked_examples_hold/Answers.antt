use Rattle.worked.proofs.worked_examples_hold.Goals as goal

pub returns : goal.returns
returns c = record {
  decimals = c.decimal_examples.ensures;
  groups = c.groups_examples.ensures;
  kinds = c.examples_hold.ensures;
  queries = c.examples_hold-2.ensures;
  layers = c.examples_hold-3.ensures;
  runs = c.examples_hold-4.ensures;
}
