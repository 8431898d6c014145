-- What a list of calls on a query comes to.
--     Exchange                    a call, with its answer
--     transcript s q cs           the calls cs on a query in the state q, each with its answer
--     after s q cs                the state that they leave
--     accepts a                   the answer a is no refusal
--     events_on x ts              the accepted events of the side x, in their order
--     histories ts                both sides' canonical histories: those of their accepted events
--     lines_in ts                 the lines that the accepted closings handed out, in their order
--     windows_in ts               their window records, in their order
use Rattle.std.specs.Prelude.{Bool, true, false, cond, List, [], ◌∷◌}
use Rattle.refusals.specs.declared.fault.Side.{Side}
use Rattle.refusals.specs.declared.fault.Side.TheVariants.{Left, Right}
use Rattle.rows.specs.Rows.{Plain}
use Rattle.rows.specs.Events.{PlainEvent}
use Rattle.receipts.specs.declared.line.Line.{Line}
use Rattle.receipts.specs.declared.window.Window.{Window}
use Rattle.receipts.specs.Histories.{history}
use Rattle.receipts.specs.Lists.{gathered}
use Rattle.receipts.specs.Sides.{Both}
use Rattle.receipts.specs.Queries.{Setup, QueryState, Call, event, closing, question, Answer, accepted, closed, told, refused, called}

abbrev pub Exchange : Type 0
Exchange = Call × Answer

abbrev pub transcript : Setup → QueryState → List Call → List Exchange
transcript s q [] = []
transcript s q (c ∷ cs) = (c, (called s q c).answer) ∷ transcript s (called s q c).after cs

abbrev pub after : Setup → QueryState → List Call → QueryState
after s q [] = q
after s q (c ∷ cs) = after s (called s q c).after cs

abbrev pub accepts : Answer → Bool
accepts accepted = true
accepts (closed w ls) = true
accepts (told n) = true
accepts (refused f) = false

-- the event of a call on the side x
abbrev pub event_on : Side → Call → List PlainEvent
event_on Left (event Left e) = e ∷ []
event_on Left (event Right e) = []
event_on Right (event Left e) = []
event_on Right (event Right e) = e ∷ []
event_on Left (closing n) = []
event_on Right (closing n) = []
event_on Left (question a) = []
event_on Right (question a) = []

-- the event that an exchange accepted on the side x
abbrev pub event_in : Side → Exchange → List PlainEvent
event_in x t = cond (accepts t.1) (event_on x t.0) []

abbrev pub events_on : Side → List Exchange → List PlainEvent
events_on x ts = gathered (event_in x) ts

abbrev pub histories : List Exchange → Both (List Plain)
histories ts = record { left = history (events_on Left ts); right = history (events_on Right ts) }

abbrev pub lines_of : Answer → List Line
lines_of accepted = []
lines_of (closed w ls) = ls
lines_of (told n) = []
lines_of (refused f) = []

abbrev pub lines_in : List Exchange → List Line
lines_in ts = gathered (λ t. lines_of t.1) ts

abbrev pub windows_of : Answer → List Window
windows_of accepted = []
windows_of (closed w ls) = w ∷ []
windows_of (told n) = []
windows_of (refused f) = []

abbrev pub windows_in : List Exchange → List Window
windows_in ts = gathered (λ t. windows_of t.1) ts
