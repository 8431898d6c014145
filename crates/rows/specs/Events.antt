-- Events as plain numbers, their sync time and their times' lawfulness.
--     PlainEvent                  an insert of a row, a retraction of a row with a new end, or a CTI, as numbers
--     plain_event pair e          the event e of the code, as numbers
--     sync e                      an insert's start, the lower of a retraction's two ends, a CTI's time
--     timely e                    the times of e are lawful
--     times_judged e              BadTime where they are not
use Rattle.std.specs.Prelude.{ℕ, min, Bool, cond, ◌&&◌, Ok, Err, Result}
use Rattle.rows.specs.declared.event.Event.{Event}
use Rattle.rows.specs.declared.event.Event.TheVariants.{Insert, Retraction, Cti}
use Rattle.refusals.specs.declared.refusal.Refusal.{Refusal}
use Rattle.refusals.specs.declared.refusal.Refusal.TheVariants.{BadTime}
use Rattle.rows.specs.Kinds.{Pair}
use Rattle.rows.specs.Rows.{Plain, plain_of, standing}
use Rattle.rows.specs.Times.{finite, retractable}

pub data PlainEvent : Type 0 where
  insert : Plain → PlainEvent
  retraction : Plain → ℕ → PlainEvent
  cti : ℕ → PlainEvent

abbrev pub plain_event : {P : Type 0} → (P → Pair) → Event P → PlainEvent
plain_event pair (Insert r) = insert (plain_of pair r)
plain_event pair (Retraction r e) = retraction (plain_of pair r) e
plain_event pair (Cti t) = cti t

abbrev pub sync : PlainEvent → ℕ
sync (insert r) = r.start
sync (retraction r e) = min r.end e
sync (cti t) = t

abbrev pub timely : PlainEvent → Bool
timely (insert r) = standing r
timely (retraction r e) = standing r && retractable r.start r.end e
timely (cti t) = finite t

abbrev pub times_judged : PlainEvent → Result (Unit {0}) Refusal
times_judged e = cond (timely e) (Ok tt) (Err BadTime)
