-- A query: what it holds, and what each call answers and leaves.
--     Setup                       a query's width, and for each side the store's capacity and the payload kind
--     Half                        a side of a query: its CTI and its held rows
--     QueryState                  the closed time and both halves;  new_query  the state at first
--     taken k capacity e h        what a side answers to the event e, and what it leaves
--     may_close s q               closing is allowed: the window's end is not above the lower CTI
--     closing_lines s q           the lines that a closing hands out
--     closing_window s q          its window record
--     closed_once s q             the state that it leaves
--     Call, Answer                a call on a query, and what it answers
--     called s q c                what the call c answers, and the state that it leaves
use Rattle.std.specs.Prelude.{ℕ, ◌+◌, min, Bool, true, cond, List, [], length, Some, None, Ok, Err, Option, Result, ◌==◌, nat_le}
use Rattle.refusals.specs.declared.fault.Fault.{Fault}
use Rattle.refusals.specs.declared.fault.Side.{Side}
use Rattle.refusals.specs.declared.refusal.Refusal.{Refusal}
use Rattle.refusals.specs.declared.refusal.Refusal.TheVariants.{BadPayload, BadTime, CtiViolated, NoSuchRow, OtherRow, NotYet, LinesFull}
use Rattle.refusals.specs.Faults.{bare_fault, on_side, at_cti}
use Rattle.refusals.specs.Refusals.{number_of}
use Rattle.rows.specs.Kinds.{Kind}
use Rattle.rows.specs.Rows.{Plain, same, in_kind}
use Rattle.rows.specs.Events.{PlainEvent, insert, retraction, cti, sync, timely}
use Rattle.rows.specs.Times.{whole}
use Rattle.receipts.specs.declared.line.Line.{Line}
use Rattle.receipts.specs.declared.window.Window.{Window}
use Rattle.receipts.specs.Joins.{lines_before, count_in}
use Rattle.receipts.specs.Sides.{Both, pick, put, twice, mapped}
use Rattle.receipts.specs.Stores.{Outcome, accept, refuse, found, adds, sets, removes, kept, gone}

pub record Setup : Type 0 where
  pub width : ℕ
  pub capacity : Both ℕ
  pub kinds : Both Kind

pub record Half : Type 0 where
  pub cti : ℕ
  pub held : List Plain

pub record QueryState : Type 0 where
  pub closed : ℕ
  pub halves : Both Half

abbrev pub new_half : Half
new_half = record { cti = 0; held = [] }

abbrev pub new_query : QueryState
new_query = record { closed = 0; halves = twice new_half }

-- Events -------------------------------------------------------------------------------------------

-- key and value of the event's row are in the range of the kind
abbrev pub ranged : Kind → PlainEvent → Bool
ranged k (insert r) = in_kind k r
ranged k (retraction r e) = in_kind k r
ranged k (cti t) = true

-- a retraction of a row, by the row that is held under its id: never matched by the id alone
abbrev pub retracts : Plain → ℕ → Option Plain → List Plain → Outcome (List Plain)
retracts r e None rows = refuse NoSuchRow rows
retracts r e (Some x) rows =
    cond (same x r) (cond (whole r.start e) (removes r.id rows) (sets r.id e rows)) (refuse OtherRow rows)

abbrev pub with_held : Half → Outcome (List Plain) → Outcome Half
with_held h o = record { answer = o.answer; after = record { cti = h.cti; held = o.after } }

abbrev pub stored : ℕ → PlainEvent → Half → Outcome Half
stored capacity (insert r) h = with_held h (adds capacity r h.held)
stored capacity (retraction r e) h = with_held h (retracts r e (found r.id h.held) h.held)
stored capacity (cti t) h = accept (record { cti = t; held = h.held })

-- Of several refusals the smallest number is told: the payload (5), the times (6), the CTI (8), then the store's and the
-- held row's.
abbrev pub taken : Kind → ℕ → PlainEvent → Half → Outcome Half
taken k capacity e h =
    cond (ranged k e)
    (cond (timely e) (cond (nat_le h.cti (sync e)) (stored capacity e h) (refuse CtiViolated h)) (refuse BadTime h))
    (refuse BadPayload h)

-- Closings -----------------------------------------------------------------------------------------

abbrev pub window_end : Setup → QueryState → ℕ
window_end s q = q.closed + s.width

abbrev pub may_close : Setup → QueryState → Bool
may_close s q = nat_le (window_end s q) (min q.halves.left.cti q.halves.right.cti)

abbrev pub held_rows : QueryState → Both (List Plain)
held_rows q = mapped (λ h. h.held) q.halves

abbrev pub closing_lines : Setup → QueryState → List Line
closing_lines s q = lines_before s.kinds (window_end s q) (held_rows q)

abbrev pub closing_window : Setup → QueryState → Window
closing_window s q = record {
  start = q.closed;
  end = window_end s q;
  count = count_in q.closed (window_end s q) (held_rows q);
  lines = length (closing_lines s q);
  purged_left = gone (window_end s q) q.halves.left.held;
  purged_right = gone (window_end s q) q.halves.right.held;
}

abbrev pub purged : ℕ → Half → Half
purged g h = record { cti = h.cti; held = kept g h.held }

abbrev pub closed_once : Setup → QueryState → QueryState
closed_once s q = record { closed = window_end s q; halves = mapped (purged (window_end s q)) q.halves }

-- Calls --------------------------------------------------------------------------------------------

pub data Question : Type 0 where
  closed_time : Question
  cti_of : Side → Question
  held_of : Side → Question

pub data Call : Type 0 where
  event : Side → PlainEvent → Call
  -- with places for so many lines
  closing : ℕ → Call
  question : Question → Call

pub data Answer : Type 0 where
  accepted : Answer
  closed : Window → List Line → Answer
  told : ℕ → Answer
  refused : Fault → Answer

pub record Called : Type 0 where
  pub answer : Answer
  pub after : QueryState

-- A refused event names its side and, where the CTI is violated, that CTI; a refused closing names neither.
abbrev pub event_refused : Side → Half → Refusal → Fault
event_refused s h why = on_side s (cond (number_of why == 8) (at_cti h.cti (bare_fault why)) (bare_fault why))

abbrev pub event_answer : Side → Half → Result (Unit {0}) Refusal → Answer
event_answer s h (Ok x) = accepted
event_answer s h (Err why) = refused (event_refused s h why)

abbrev pub on_event : Side → QueryState → Outcome Half → Called
on_event s q o = record {
  answer = event_answer s (pick s q.halves) o.answer;
  after = record { closed = q.closed; halves = put s o.after q.halves };
}

abbrev pub keeps : QueryState → Answer → Called
keeps q a = record { answer = a; after = q }

-- NotYet (13) before LinesFull (15)
abbrev pub on_closing : Setup → ℕ → QueryState → Called
on_closing s places q =
    cond (may_close s q)
    (cond (nat_le (length (closing_lines s q)) places)
    (record { answer = closed (closing_window s q) (closing_lines s q); after = closed_once s q })
    (keeps q (refused (bare_fault LinesFull))))
    (keeps q (refused (bare_fault NotYet)))

abbrev pub asked : QueryState → Question → ℕ
asked q closed_time = q.closed
asked q (cti_of s) = (pick s q.halves).cti
asked q (held_of s) = length (pick s q.halves).held

abbrev pub called : Setup → QueryState → Call → Called
called s q (event x e) = on_event x q (taken (pick x s.kinds) (pick x s.capacity) e (pick x q.halves))
called s q (closing places) = on_closing s places q
called s q (question x) = keeps q (told (asked q x))
