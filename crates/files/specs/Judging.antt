-- An event's fields as a file has them, and the event that they are.
--     time_of e               the time that the end field e means
--     means_time e            the end field e is FOREVER, or tells a finite time
--     row_in r                the row that the fields r are, as numbers
--     event_in f              the event that the fields f are, as numbers
--     payload_fits k f        key and value of f are in the range of the kind k; a CTI has none
--     times_fit f             the times of f are lawful
--     judged k f              the event that f is; BadPayload where the payload does not fit, else BadTime where the times do not
--     judged_as pair r        the answer r of a call that judges fields, its event as numbers
--     field_of t, fields_of e     the fields of an end, and of an event
use Rattle.std.specs.Prelude.{ℕ, Bool, true, cond, ◌&&◌, Ok, Err, Result, ◌==◌}
use Rattle.refusals.specs.declared.refusal.Refusal.{Refusal}
use Rattle.refusals.specs.declared.refusal.Refusal.TheVariants.{BadPayload, BadTime}
use Rattle.rows.specs.declared.event.Event.{Event}
use Rattle.rows.specs.Events.{PlainEvent, insert, retraction, cti, plain_event, timely}
use Rattle.rows.specs.Kinds.{Kind, Pair, in_range}
use Rattle.rows.specs.Rows.{Plain}
use Rattle.rows.specs.Spans.{Times}
use Rattle.rows.specs.Times.{forever, finite, lawful}
use Rattle.files.specs.declared.fields.EndField.{EndField}
use Rattle.files.specs.declared.fields.EndField.TheVariants.{At, Forever}
use Rattle.files.specs.declared.fields.RowFields.{RowFields}
use Rattle.files.specs.declared.fields.Fields.{Fields}
use Rattle.files.specs.declared.fields.Fields.TheVariants.{Insert, Retraction, Cti}

abbrev pub time_of : EndField → ℕ
time_of (At t) = t
time_of Forever = forever

abbrev pub means_time : EndField → Bool
means_time (At t) = finite t
means_time Forever = true

abbrev pub row_in : RowFields → Plain
row_in r = record { id = r.id; start = r.start; end = time_of r.end; key = r.key; value = r.value }

abbrev pub event_in : Fields → PlainEvent
event_in (Insert r) = insert (row_in r)
event_in (Retraction r e) = retraction (row_in r) (time_of e)
event_in (Cti t) = cti t

abbrev pub payload_fits : Kind → Fields → Bool
payload_fits k (Insert r) = in_range k r.key r.value
payload_fits k (Retraction r e) = in_range k r.key r.value
payload_fits k (Cti t) = true

abbrev pub ends_mean : Fields → Bool
ends_mean (Insert r) = means_time r.end
ends_mean (Retraction r e) = means_time r.end && means_time e
ends_mean (Cti t) = true

abbrev pub times_fit : Fields → Bool
times_fit f = ends_mean f && timely (event_in f)

abbrev pub judged : Kind → Fields → Result PlainEvent Refusal
judged k f = cond (payload_fits k f) (cond (times_fit f) (Ok (event_in f)) (Err BadTime)) (Err BadPayload)

abbrev pub judged_as : {P : Type 0} → (P → Pair) → Result (Event P) Refusal → Result PlainEvent Refusal
judged_as pair (Ok e) = Ok (plain_event pair e)
judged_as pair (Err r) = Err r

-- the parts of an event, judged by calls of their own
abbrev pub end_judged : EndField → Result ℕ Refusal
end_judged e = cond (means_time e) (Ok (time_of e)) (Err BadTime)

abbrev pub span_judged : ℕ → EndField → Result Times Refusal
span_judged start e = cond (means_time e && lawful start (time_of e)) (Ok (record { start = start; end = time_of e })) (Err BadTime)

abbrev pub row_judged : Kind → RowFields → Result Plain Refusal
row_judged k r = cond (in_range k r.key r.value) (cond (means_time r.end && lawful r.start (time_of r.end)) (Ok (row_in r)) (Err BadTime)) (Err BadPayload)

abbrev pub field_of : ℕ → EndField
field_of t = cond (t == forever) Forever (At t)

abbrev pub row_fields : Plain → RowFields
row_fields r = record { id = r.id; start = r.start; end = field_of r.end; key = r.key; value = r.value }

abbrev pub fields_of : PlainEvent → Fields
fields_of (insert r) = Insert (row_fields r)
fields_of (retraction r e) = Retraction (row_fields r) (field_of e)
fields_of (cti t) = Cti t
