-- The laws of runs.
--     events_of x srcs            the events of the side x's stream
--     Made s srcs a               the report a comes of calls on a new query, whose accepted events are, side for side, the first
--                                 of both streams; at END all of them, and no closing is allowed any more
--     piled fs srcs               both streams, each under its side's rules
--     rewritten_histories fs srcs both streams' histories, each put through its side's rules
--     Lawful fs srcs              both streams are legal, and all rules keep their laws
--     Counted hs ws               each count in the window records ws is that of the join of the histories hs
--     last_ctis srcs              the lower of the last CTIs of both streams
--     Accounted s srcs a          inserts = rows taken away whole + rows purged + rows held; all that may be closed is closed
--     Stands s fs srcs a          the report a over streams under piles is made, exact, counted and accounted for
-- The laws:
--     RunsMade                    every run's report is made so, with fault or without
--     RunsExact                   a run over legal streams under piles that ends without fault hands out exactly the lines of the
--                                 rewritten histories' join that end before its closed time, each once
--     RunsCounted                 its window counts are those of the rewritten histories' join
--     RunsAccounted               a run over any streams that ends without fault is accounted for
--     RunsDetermined              a run's lines and counts depend on the rewritten histories up to its closed time alone
--     RunsStand                   the first four together, of the run itself
use Rattle.std.specs.Prelude.{◌≡◌, ℕ, ◌+◌, ◌*◌, ◌<◌, ◌≤◌, min, false, List, [], ◌∷◌, ◌++◌, length, Ok}
use Rattle.refusals.specs.declared.fault.Side.{Side}
use Rattle.rows.specs.Rows.{Plain}
use Rattle.rows.specs.Events.{PlainEvent}
use Rattle.receipts.specs.declared.window.Window.{Window}
use Rattle.receipts.specs.Histories.{events, cti_after, up_to, Legal}
use Rattle.receipts.specs.Joins.{count_in, Exactly}
use Rattle.receipts.specs.Laws.{record_of, left_by, closed_time_of, inserts, takes_whole, purged_on}
use Rattle.receipts.specs.Lists.{In, SameMembers, total, tally, each}
use Rattle.receipts.specs.Queries.{Setup, may_close, Call}
use Rattle.receipts.specs.Sides.{Both, pick}
use Rattle.receipts.specs.Transcripts.{events_on, lines_in, windows_in}
use Rattle.rewriting.specs.Layers.{pile, rewritten_history}
use Rattle.rewriting.specs.Rules.{Rule, AllKeep}
use Rattle.rewriting.specs.Streams.{Stream}
use Rattle.run_laws.specs.Runs.{Places, Report, run}

abbrev pub events_of : Side → Both Stream → List PlainEvent
events_of x srcs = events (pick x srcs).entries

pub record Made (s : Setup) (srcs : Both Stream) (a : Report) : Type 0 where
  pub calls : List Call
  pub lines : lines_in (record_of s calls) ≡ a.lines
  pub windows : windows_in (record_of s calls) ≡ a.windows
  pub closed : closed_time_of s calls ≡ a.closed
  pub held : (x : Side) → length (pick x (left_by s calls).halves).held ≡ pick x a.held
  pub left : Side → List PlainEvent
  pub fronts : (x : Side) → events_on x (record_of s calls) ++ left x ≡ events_of x srcs
  pub whole : a.ending ≡ Ok tt →
      ((x : Side) → (left x ≡ []) × ((pick x srcs).ending ≡ Ok tt)) × (may_close s (left_by s calls) ≡ false)

abbrev pub RunsMade : Type 0
RunsMade = (s : Setup) (p : Places) (srcs : Both Stream) → 0 < s.width → Made s srcs (run s p srcs)

-- Over piles ---------------------------------------------------------------------------------------

abbrev pub piled : Both (List Rule) → Both Stream → Both Stream
piled fs srcs = record { left = pile fs.left srcs.left; right = pile fs.right srcs.right }

abbrev pub rewritten_histories : Both (List Rule) → Both Stream → Both (List Plain)
rewritten_histories fs srcs = record {
  left = rewritten_history fs.left srcs.left;
  right = rewritten_history fs.right srcs.right;
}

abbrev pub Lawful : Both (List Rule) → Both Stream → Type 0
Lawful fs srcs = (x : Side) → Legal (events_of x srcs) × AllKeep (pick x fs)

abbrev pub RunsExact : Type 0
RunsExact = (s : Setup) (fs : Both (List Rule)) (srcs : Both Stream) (a : Report) → 0 < s.width →
    Lawful fs srcs → Made s (piled fs srcs) a → a.ending ≡ Ok tt →
    Exactly s.kinds a.closed (rewritten_histories fs srcs) a.lines

abbrev pub Counted : Both (List Plain) → List Window → Type 0
Counted hs ws = (w : Window) → In w ws → w.count ≡ count_in w.start w.end hs

abbrev pub RunsCounted : Type 0
RunsCounted = (s : Setup) (fs : Both (List Rule)) (srcs : Both Stream) (a : Report) → 0 < s.width →
    Lawful fs srcs → Made s (piled fs srcs) a → a.ending ≡ Ok tt →
    Counted (rewritten_histories fs srcs) a.windows

-- c where there is none
abbrev pub last_cti : ℕ → List PlainEvent → ℕ
last_cti c [] = c
last_cti c (e ∷ es) = last_cti (cti_after c e) es

abbrev pub last_ctis : Both Stream → ℕ
last_ctis srcs = min (last_cti 0 (events srcs.left.entries)) (last_cti 0 (events srcs.right.entries))

-- one more window would end above the lower of the last CTIs
pub record Accounted (s : Setup) (srcs : Both Stream) (a : Report) : Type 0 where
  pub balance : (x : Side) →
      tally inserts (events_of x srcs) ≡ tally takes_whole (events_of x srcs) + total (purged_on x) a.windows + pick x a.held
  pub windows : a.closed ≡ s.width * length a.windows
  pub reached : a.closed ≤ last_ctis srcs
  pub no_more : last_ctis srcs < a.closed + s.width

abbrev pub RunsAccounted : Type 0
RunsAccounted = (s : Setup) (srcs : Both Stream) (a : Report) → Made s srcs a → a.ending ≡ Ok tt → Accounted s srcs a

-- Two runs of one width and the same payload kinds, over any streams, rules, capacities and places, that come to one closed
-- time: where side for side the rewritten histories up to it have the same rows, lines and counts are equal, each in order.
abbrev pub RunsDetermined : Type 0
RunsDetermined = (s t : Setup) (fs gs : Both (List Rule)) (srcs others : Both Stream) (a b : Report) → 0 < s.width →
    s.width ≡ t.width → s.kinds ≡ t.kinds → Lawful fs srcs → Lawful gs others →
    Made s (piled fs srcs) a → Made t (piled gs others) b → a.ending ≡ Ok tt → b.ending ≡ Ok tt → a.closed ≡ b.closed →
    ((x : Side) → SameMembers
    (up_to a.closed (pick x (rewritten_histories fs srcs)))
    (up_to a.closed (pick x (rewritten_histories gs others)))) →
    (a.lines ≡ b.lines) × (each (λ w. w.count) a.windows ≡ each (λ w. w.count) b.windows)

-- The run itself ------------------------------------------------------------------------------------

pub record Stands (s : Setup) (fs : Both (List Rule)) (srcs : Both Stream) (a : Report) : Type 0 where
  pub made : Made s (piled fs srcs) a
  pub exact : Exactly s.kinds a.closed (rewritten_histories fs srcs) a.lines
  pub counted : Counted (rewritten_histories fs srcs) a.windows
  pub accounted : Accounted s (piled fs srcs) a

-- A run over any two legal streams, each under any pile of rules that keep their laws, which ends without fault.
abbrev pub RunsStand : Type 0
RunsStand = (s : Setup) (p : Places) (fs : Both (List Rule)) (srcs : Both Stream) → 0 < s.width →
    Lawful fs srcs → (run s p (piled fs srcs)).ending ≡ Ok tt → Stands s fs srcs (run s p (piled fs srcs))
