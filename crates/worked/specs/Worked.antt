-- The worked examples of all definitions in one statement.
--     Worked      decimal numbers and numbers in groups (300 is AC 02, AC 82 00 is refused, FOREVER's five bytes); weights, payload
--                 kinds, sync times, retractions and spans at their edges (grams 3,072 and 4,094); the query's edges (a row that
--                 ends at the CTI may be moved, one that ends before it may not; closing at the lower CTI); row rules and layers;
--                 and the printed example as a run over the hall's piles, with the real kinds and capacities
use Rattle.decimals.specs.Examples.{DecimalExamples}
use Rattle.groups.specs.Examples.{GroupsExamples}
use Rattle.kinds.specs.Examples.{Examples as KindExamples}
use Rattle.receipts.specs.Examples.{Examples as QueryExamples}
use Rattle.rewriting.specs.Examples.{Examples as LayerExamples}
use Rattle.run_laws.specs.Examples.{Examples as RunExamples}

pub record Worked : Type 0 where
  pub decimals : DecimalExamples
  pub groups : GroupsExamples
  pub kinds : KindExamples
  pub queries : QueryExamples
  pub layers : LayerExamples
  pub runs : RunExamples
