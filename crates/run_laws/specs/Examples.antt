-- A worked example: a run of width 100 over the lists of a hall, tallies on the left and readings on the right, each under a
-- rule that selects lockers 0 to 8,999.
--     hall, hall_streams          the setup and the two lists
--     hall_rules                  a rule for each side
--     hall_run p                  the run, with the places p
--     Examples                    its report, the faults that it and runs like it tell, and that the laws of runs speak of it
use Rattle.std.specs.Prelude.{◌≡◌, ℕ, List, [], ◌∷◌, Ok, Err}
use Rattle.refusals.specs.declared.fault.Side.TheVariants.{Left, Right}
use Rattle.refusals.specs.declared.refusal.Refusal.TheVariants.{BadByte, CtiViolated, WindowsFull, LinesFull}
use Rattle.refusals.specs.Faults.{event_fault, on_side, at_cti, Ending}
use Rattle.rows.specs.Events.{insert, retraction, cti}
use Rattle.rows.specs.Kinds.{Kind}
use Rattle.rows.specs.Times.{forever}
use Rattle.kinds.specs.Kinds.{tallies, readings, unlimited}
use Rattle.receipts.specs.declared.line.Line.{Line}
use Rattle.receipts.specs.Examples.{row, window}
use Rattle.receipts.specs.Histories.{Entry}
use Rattle.receipts.specs.Queries.{Setup}
use Rattle.receipts.specs.Sides.{Both}
use Rattle.rewriting.specs.RowRules.{select}
use Rattle.rewriting.specs.Rules.{Rule}
use Rattle.rewriting.specs.Streams.{Stream}
use Rattle.run_laws.specs.Runs.{Places, Report, run}
use Rattle.run_laws.specs.Laws.{piled, Lawful}

abbrev pub hall : Setup
hall = record {
  width = 100;
  capacity = record { left = 128; right = 256 };
  kinds = record { left = tallies; right = readings };
}

abbrev pub stream : List Entry → Ending → Stream
stream es w = record { entries = es; ending = w; depth = 0 }

abbrev pub hall_streams : Both Stream
hall_streams = record {
  left = stream (
      (1, insert (row 1 10 forever 7 2)) ∷ (2, insert (row 2 20 60 8 1)) ∷ (3, cti 50)
      ∷ (4, retraction (row 1 10 forever 7 2) 150) ∷ (5, cti 210) ∷ []) (Ok tt);
  right = stream (
      (1, insert (row 1 15 forever 7 4095)) ∷ (2, cti 40) ∷ (3, retraction (row 1 15 forever 7 4095) 90)
      ∷ (4, insert (row 2 90 forever 7 1000)) ∷ (5, insert (row 3 95 300 8 10)) ∷ (6, cti 205) ∷ []) (Ok tt);
}

-- any value
abbrev pub lockers : Kind → List Rule
lockers k = select k 0 8999 0 unlimited ∷ []

abbrev pub hall_rules : Both (List Rule)
hall_rules = record { left = lockers tallies; right = lockers readings }

abbrev pub places : ℕ → ℕ → Places
places lines windows = record { lines = lines; windows = windows }

abbrev pub hall_run : Places → Report
hall_run p = run hall p (piled hall_rules hall_streams)

abbrev pub receipt_line : ℕ → ℕ → ℕ → ℕ → ℕ → ℕ → ℕ → ℕ → ℕ → Line
receipt_line left right start end key left_least left_most right_least right_most = record {
  left_id = left;
  right_id = right;
  start = start;
  end = end;
  key = key;
  left_least = left_least;
  left_most = left_most;
  right_least = right_least;
  right_most = right_most;
}

-- the row of locker 8 on the left ends before its reading starts, so that the two never join
abbrev pub HallReport : Type 0
HallReport = hall_run (places 1024 1024) ≡ record {
  lines = receipt_line 1 1 15 90 7 2 2 50676 unlimited ∷ receipt_line 1 2 90 150 7 2 2 12000 12000 ∷ [];
  windows = window 0 100 2 1 1 1 ∷ window 100 200 1 1 1 0 ∷ [];
  closed = 200;
  held = record { left = 0; right = 2 };
  ending = Ok tt;
}

-- The second closing comes after the left's fifth event, and the query stands one above the rule.
abbrev pub PlacesMissing : Type 0
PlacesMissing =
    ((hall_run (places 1 1024)).ending ≡ Err (on_side Left (event_fault LinesFull 2 5)))
    × ((hall_run (places 1024 1)).ending ≡ Err (on_side Left (event_fault WindowsFull 2 5)))

-- an ending that a reader of the source tells
abbrev pub broken : Ending
broken = Err (event_fault BadByte 0 2)

-- A late event tells the CTI that it violates; a source's fault is told as it is, on its side, once the source comes to it.
abbrev pub SourcesAtFault : Type 0
SourcesAtFault =
    ((run hall (places 1024 1024) (piled hall_rules (record {
      left = stream ((1, cti 50) ∷ (2, insert (row 1 40 60 7 2)) ∷ []) (Ok tt);
      right = stream ((1, cti 60) ∷ []) (Ok tt);
    }))).ending ≡ Err (on_side Left (at_cti 50 (event_fault CtiViolated 2 2))))
    × ((run hall (places 1024 1024) (piled hall_rules (record {
      left = stream ((1, cti 50) ∷ (2, insert (row 1 50 60 7 2)) ∷ []) (Ok tt);
      right = stream ((1, cti 60) ∷ []) broken;
    }))).ending ≡ Err (on_side Right (event_fault BadByte 0 2)))

abbrev pub Examples : Type 0
Examples = HallReport × PlacesMissing × SourcesAtFault × Lawful hall_rules hall_streams
