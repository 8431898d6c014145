-- Any of the row rules.
--     any_rule x k                the rule that x is, at the payload kind k
--     any_keeps x k               it keeps the laws of row rules
use Rattle.rows.specs.Kinds.{Kind}
use Rattle.rewriting.specs.Rules.{Rule, Keeps}
use Rattle.rewriting.specs.RowRules.{select, shift, set_duration}
use Rattle.rewriting.proofs.RowRules.{select_keeps, shift_keeps, set_duration_keeps}
use Rattle.piling.specs.declared.any_rule.AnyRule.{AnyRule}
use Rattle.piling.specs.declared.any_rule.AnyRule.TheVariants.{Selecting, Shifting, Lasting}

abbrev pub any_rule : AnyRule → Kind → Rule
any_rule (Selecting x) k = select k x.low x.high x.least x.most
any_rule (Shifting x) k = shift x.by.count
any_rule (Lasting x) k = set_duration x.lasting.count

pub any_keeps : (x : AnyRule) (k : Kind) → Keeps (any_rule x k)
any_keeps (Selecting x) k = select_keeps k x.low x.high x.least x.most
any_keeps (Shifting x) k = shift_keeps x.by.count
any_keeps (Lasting x) k = set_duration_keeps x.lasting.count x.lasting.some
