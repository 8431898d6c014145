-- What a rule made of an event, as plain numbers.
--     rewritten_as pair r         the code's answer: it vanished, became another event, or was refused
--     left_image f r o            the image by the rule f of what is left of the row r, the span o; none where nothing is left
use Rattle.std.specs.Prelude.{Some, None, Ok, Err, Option, Result}
use Rattle.refusals.specs.declared.refusal.Refusal.{Refusal}
use Rattle.rows.specs.declared.event.Event.{Event}
use Rattle.rows.specs.declared.span.Span.{Span}
use Rattle.rows.specs.Events.{plain_event}
use Rattle.rows.specs.Kinds.{Pair}
use Rattle.rows.specs.Rows.{Plain}
use Rattle.rewriting.specs.Layers.{Rewritten, vanishes, is_now, refused}
use Rattle.rewriting.specs.Rules.{Image, nothing, Rule, spanned}

abbrev pub event_left : {P : Type 0} → (P → Pair) → Option (Event P) → Rewritten
event_left pair None = vanishes
event_left pair (Some e) = is_now (plain_event pair e)

abbrev pub rewritten_as : {P : Type 0} → (P → Pair) → Result (Option (Event P)) Refusal → Rewritten
rewritten_as pair (Ok o) = event_left pair o
rewritten_as pair (Err why) = refused why

abbrev pub left_image : Rule → Plain → Option Span → Image
left_image f r None = nothing
left_image f r (Some s) = f.image (spanned r s.start s.end)
