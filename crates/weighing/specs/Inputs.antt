-- What a whole input means.
--     Outcome                 the weighed numbers, and the fault that ended them early, if one did
--     outcome r               the report r of the code as an outcome
--     stopped r n             no number, and the refusal r at the line n
--     led ws o                the weighed numbers ws before those of the outcome o
--     lines_in fuel n bs      the outcome of at most fuel lines of bs, numbered from n on, up to the first that is refused
--     lines_from n bs         the outcome of all lines of bs: a line has a byte, so there are no more lines than bytes
--     input_weighed bs        TooLong at line 1 where there are more than 65,536 bytes, else the outcome of the lines
use Rattle.std.specs.Prelude.{ℕ, zero, suc, ◌+◌, cond, List, [], ◌∷◌, ◌++◌, length, Some, None, Ok, Err, vec_items, Option, Result, nat_le}
use Rattle.refusals.specs.declared.fault.Fault.{Fault}
use Rattle.refusals.specs.declared.refusal.Refusal.{Refusal}
use Rattle.refusals.specs.declared.refusal.Refusal.TheVariants.{TooLong}
use Rattle.refusals.specs.Faults.{event_fault}
use Rattle.weighing.specs.declared.input.Report.{Report}
use Rattle.weighing.specs.declared.weighed.Weighed.{Weighed}
use Rattle.weighing.specs.Lines.{line_read}

pub record Outcome : Type 0 where
  pub weighed : List Weighed
  pub fault : Option Fault

abbrev pub outcome : Report → Outcome
outcome r = record { weighed = vec_items r.weighed; fault = r.fault }

abbrev pub stopped : Refusal → ℕ → Outcome
stopped r n = record { weighed = []; fault = Some (event_fault r 0 n) }

abbrev pub led : List Weighed → Outcome → Outcome
led ws o = record { weighed = ws ++ o.weighed; fault = o.fault }

abbrev pub after_line : ℕ → Result (Weighed × List ℕ) Refusal → (List ℕ → Outcome) → Outcome
after_line n (Ok p) go = led (p.0 ∷ []) (go p.1)
after_line n (Err r) go = stopped r n

unfoldable pub lines_in : ℕ → ℕ → List ℕ → Outcome
lines_in fuel n [] = record { weighed = []; fault = None }
lines_in zero n (b ∷ bs) = record { weighed = []; fault = None }
lines_in (suc fuel) n (b ∷ bs) = after_line n (line_read (b ∷ bs)) (lines_in fuel (n + 1))

unfoldable pub lines_from : ℕ → List ℕ → Outcome
lines_from n bs = lines_in (length bs) n bs

abbrev pub input_weighed : List ℕ → Outcome
input_weighed bs = cond (nat_le (length bs) 65536) (lines_from 1 bs) (stopped TooLong 1)
