-- A side's turn: an event, or the ending, taken from its source and handed to the query.
--     shallow src                     the stream src, with a depth of at most 65,535
--     is_cti e                        the event e is a CTI
--     PlainNext                       what a side is to hear: the first event and its place, or the ending
--     next_as pair r                  what the answer r of taking gives it
--     next_on side src                what the stream src gives it; a fault is told on the side
--     ending_step w                   what comes of the ending w
--     answer_step x c a               what comes of the query's answer a to the event at the place x, a CTI where c is true
--     Fed, fed r q                    what came of the turn, and the query that it leaves
--     stepped s q side src            what comes of a turn of a side whose source is src
--     steps q side src x after        so it comes to x, and leaves the query after, which has the setup of q
use Rattle.std.specs.Prelude.{◌≡◌, ℕ, min, Bool, true, false, cond, Some, None, Option, Ok, Err, Result}
use Rattle.refusals.specs.declared.fault.Fault.{Fault}
use Rattle.refusals.specs.declared.fault.Side.{Side}
use Rattle.refusals.specs.Faults.{on_side, Ending}
use Rattle.rows.specs.Events.{PlainEvent, plain_event, insert, retraction, cti}
use Rattle.rows.specs.Kinds.{Pair}
use Rattle.receipts.specs.Queries.{Setup, QueryState, event, Answer, accepted, closed, told, refused, Called, called}
use Rattle.rewriting.specs.Streams.{Stream}
use Rattle.rows.specs.declared.payload.Payload
use Rattle.stores.specs.declared.store.Store
use Rattle.query.specs.declared.engine.Query.{Query}
use Rattle.query.specs.Queries.{setup, state}
use Rattle.run_laws.specs.Runs.{located}
use Rattle.sources.specs.Taking.{PlainTaken, next, ended, next_in}
use Rattle.run.specs.declared.feeding.Next.{Next}
use Rattle.run.specs.declared.feeding.Place.{Place}
use Rattle.run.specs.declared.feeding.Step.{Step}
use Rattle.run.specs.declared.feeding.Step.TheVariants as step

abbrev pub shallow : Stream → Stream
shallow src = record { entries = src.entries; ending = src.ending; depth = min src.depth 65535 }

abbrev pub is_cti : PlainEvent → Bool
is_cti (insert r) = false
is_cti (retraction r e) = false
is_cti (cti t) = true

pub data PlainNext : Type 0 where
  at : Place → PlainEvent → PlainNext
  over : Ending → PlainNext

abbrev pub next_as : {P : Type 0} → (P → Pair) → Result (Option (Next P)) Fault → PlainNext
next_as pair (Ok (Some x)) = at x.place (plain_event pair x.event)
next_as pair (Ok None) = over (Ok tt)
next_as pair (Err f) = over (Err f)

abbrev pub told_on : Side → Ending → Ending
told_on side (Ok u) = Ok u
told_on side (Err f) = Err (on_side side f)

abbrev pub next_by : Side → ℕ → PlainTaken → PlainNext
next_by side depth (next n e) = at (record { depth = depth; number = n }) e
next_by side depth (ended w) = over (told_on side w)

abbrev pub next_on : Side → Stream → PlainNext
next_on side src = next_by side src.depth (next_in src)

abbrev pub ending_step : Ending → Result Step Fault
ending_step (Ok u) = Ok step.Ended
ending_step (Err f) = Err f

-- the query answers an event by accepting or refusing it, and in no other way
abbrev pub answer_step : Place → Bool → Answer → Result Step Fault
answer_step x c accepted = Ok (cond c (step.Advanced x) step.Accepted)
answer_step x c (closed w ls) = Ok step.Accepted
answer_step x c (told n) = Ok step.Accepted
answer_step x c (refused f) = Err (located x.depth x.number f)

pub record Fed : Type 0 where
  pub step : Result Step Fault
  pub query : QueryState

abbrev pub fed : Result Step Fault → QueryState → Fed
fed r q = record { step = r; query = q }

abbrev pub answered : Place → PlainEvent → Called → Fed
answered x e o = fed (answer_step x (is_cti e) o.answer) o.after

abbrev pub stepped_by : Setup → QueryState → Side → PlainNext → Fed
stepped_by s q side (at x e) = answered x e (called s q (event side e))
stepped_by s q side (over w) = fed (ending_step w) q

abbrev pub stepped : Setup → QueryState → Side → Stream → Fed
stepped s q side src = stepped_by s q side (next_on side src)

-- in one equation what came of it and what it leaves; and the setup stays
abbrev pub steps : {L R S T : Type 0} {l : Payload.Ghosts L} {r : Payload.Ghosts R} {s : Store.Ghosts S} {t : Store.Ghosts T} →
    Query L R S T l r s t → Side → Stream → Result Step Fault → Query L R S T l r s t → Type 0
steps q side src x after = (fed x (state after) ≡ stepped (setup q) (state q) side src) × (setup after ≡ setup q)
