-- A run: a new query fed from two sources until both have ended or a fault is met.
--     Places                      places for lines and for window records
--     RunState                    where a run stands: the query, what each source has left, which have ended, what was handed out
--     Report                      what a run answers: lines, window records, closed time, held counts and ending
--     next_side x                 the side that is taken from next
--     closings s p blame n x      closings until closing is not allowed, with places for n more window records
--     turn s p srcs x             one event or one ending taken
--     run s p srcs                the report of a run over two streams
use Rattle.std.specs.Prelude.{ℕ, zero, suc, ◌+◌, ◌-◌, Bool, true, false, cond, not, ◌&&◌, ◌||◌, List, [], ◌∷◌, ◌++◌, length, Some, Ok, Err, Result, nat_le}
use Rattle.refusals.specs.declared.fault.Fault.{Fault}
use Rattle.refusals.specs.declared.fault.Side.{Side}
use Rattle.refusals.specs.declared.fault.Side.TheVariants.{Left, Right}
use Rattle.refusals.specs.declared.refusal.Refusal.{Refusal}
use Rattle.refusals.specs.declared.refusal.Refusal.TheVariants.{WindowsFull, LinesFull}
use Rattle.refusals.specs.Faults.{event_fault, on_side, Ending}
use Rattle.rows.specs.Events.{PlainEvent, insert, retraction, cti}
use Rattle.receipts.specs.declared.line.Line.{Line}
use Rattle.receipts.specs.declared.window.Window.{Window}
use Rattle.receipts.specs.Histories.{Entry}
use Rattle.receipts.specs.Queries.{Setup, Half, QueryState, new_query, taken, may_close, closing_lines, closing_window, closed_once, event_refused}
use Rattle.receipts.specs.Sides.{Both, pick, put, twice, mapped}
use Rattle.receipts.specs.Stores.{Outcome}
use Rattle.rewriting.specs.Streams.{Stream}

pub record Places : Type 0 where
  pub lines : ℕ
  pub windows : ℕ

pub record RunState : Type 0 where
  pub query : QueryState
  pub rest : Both (List Entry)
  pub over : Both Bool
  pub lines : List Line
  pub windows : List Window

pub record Report : Type 0 where
  pub lines : List Line
  pub windows : List Window
  pub closed : ℕ
  pub held : Both ℕ
  pub ending : Ending

-- after a turn the run goes on, or it has met a fault
pub data Turn : Type 0 where
  goes_on : RunState → Turn
  stops : RunState → Fault → Turn

-- Closings -----------------------------------------------------------------------------------------

-- each closing writes on after the one before
abbrev pub closed_in : Setup → RunState → RunState
closed_in s x = record {
  query = closed_once s x.query;
  rest = x.rest;
  over = x.over;
  lines = x.lines ++ closing_lines s x.query;
  windows = x.windows ++ (closing_window s x.query ∷ []);
}

-- WindowsFull (14) where it may close and has no place for the record, before LinesFull (15)
abbrev pub closings : Setup → Places → (Refusal → Fault) → ℕ → RunState → Turn
closings s p blame zero x = cond (may_close s x.query) (stops x (blame WindowsFull)) (goes_on x)
closings s p blame (suc n) x =
    cond (may_close s x.query)
    (cond (nat_le (length (x.lines ++ closing_lines s x.query)) p.lines)
    (closings s p blame n (closed_in s x))
    (stops x (blame LinesFull)))
    (goes_on x)

-- Taking -------------------------------------------------------------------------------------------

-- The query's depth is one above its side's top layer. What closings refuse names the side and the event just taken.
abbrev pub run_fault : Side → ℕ → ℕ → Refusal → Fault
run_fault side depth n why = on_side side (event_fault why (depth + 1) n)

abbrev pub located : ℕ → ℕ → Fault → Fault
located depth n f = record { refusal = f.refusal; side = f.side; depth = Some (depth + 1); event = Some n; cti = f.cti }

-- closings come after an accepted CTI alone
abbrev pub after_event : Setup → Places → (Refusal → Fault) → PlainEvent → RunState → Turn
after_event s p blame (insert r) x = goes_on x
after_event s p blame (retraction r e) x = goes_on x
after_event s p blame (cti t) x = closings s p blame (p.windows - length x.windows) x

-- the state with a side's half and remaining list
abbrev pub with_side : Side → Half → List Entry → RunState → RunState
with_side side h es x = record {
  query = record { closed = x.query.closed; halves = put side h x.query.halves };
  rest = put side es x.rest;
  over = x.over;
  lines = x.lines;
  windows = x.windows;
}

abbrev pub heard : Setup → Places → Side → ℕ → Entry → Half → RunState → RunState → Result (Unit {0}) Refusal → Turn
heard s p side depth e h old new (Ok u) = after_event s p (run_fault side depth e.0) e.1 new
heard s p side depth e h old new (Err why) = stops old (located depth e.0 (event_refused side h why))

-- what a side answers to an event, and what it leaves
abbrev pub outcome : Setup → RunState → Side → PlainEvent → Outcome Half
outcome s x side e = taken (pick side s.kinds) (pick side s.capacity) e (pick side x.query.halves)

abbrev pub taking : Setup → Places → Side → ℕ → Entry → List Entry → Half → Outcome Half → RunState → Turn
taking s p side depth e es h o x = heard s p side depth e h x (with_side side o.after es x) o.answer

-- the state with a side ended
abbrev pub over_on : Side → RunState → RunState
over_on side x = record { query = x.query; rest = x.rest; over = put side true x.over; lines = x.lines; windows = x.windows }

abbrev pub ended : Side → Ending → RunState → Turn
ended side (Ok tt) x = goes_on (over_on side x)
ended side (Err f) x = stops x (on_side side f)

abbrev pub take_from : Setup → Places → Both Stream → RunState → Side → List Entry → Turn
take_from s p srcs x side [] = ended side (pick side srcs).ending x
take_from s p srcs x side (e ∷ es) =
    taking s p side (pick side srcs).depth e es (pick side x.query.halves) (outcome s x side e.1) x

-- the left where it has not ended and either the right has, or the left CTI is not above the right one
abbrev pub next_side : RunState → Side
next_side x =
    cond (not x.over.left && (x.over.right || nat_le x.query.halves.left.cti x.query.halves.right.cti)) Left Right

abbrev pub turn : Setup → Places → Both Stream → RunState → Turn
turn s p srcs x = take_from s p srcs x (next_side x) (pick (next_side x) x.rest)

-- Runs ---------------------------------------------------------------------------------------------

abbrev pub report : RunState → Ending → Report
report x w = record {
  lines = x.lines;
  windows = x.windows;
  closed = x.query.closed;
  held = mapped (λ h. length h.held) x.query.halves;
  ending = w;
}

abbrev pub continued : Turn → (RunState → Report) → Report
continued (goes_on x) go = go x
continued (stops x f) go = report x (Err f)

-- at most n turns, until both sources have ended or a fault is met
abbrev pub ran : Setup → Places → Both Stream → ℕ → RunState → Report
ran s p srcs zero x = report x (Ok tt)
ran s p srcs (suc n) x =
    cond (x.over.left && x.over.right) (report x (Ok tt)) (continued (turn s p srcs x) (λ y. ran s p srcs n y))

abbrev pub started : Both Stream → RunState
started srcs = record {
  query = new_query;
  rest = mapped (λ src. src.entries) srcs;
  over = twice false;
  lines = [];
  windows = [];
}

-- each turn takes an event or an ending, so that these turns are enough
abbrev pub turns : Both Stream → ℕ
turns srcs = length srcs.left.entries + length srcs.right.entries + 2

abbrev pub run : Setup → Places → Both Stream → Report
run s p srcs = ran s p srcs (turns srcs) (started srcs)
