-- The laws of receipts: whatever calls are made on a new query, in whatever order, accepted or refused.
--     ReceiptsExact               the handed-out lines are exactly the lines of both canonical histories' join that end
--                                 before the closed time, each once
--     ReceiptsDetermined          lines and counts depend on the histories up to the closed time alone
--     CountsTrue                  each window's count is that of both canonical histories' join
--     AccountsBalance             inserts = rows taken away whole + rows purged + rows held; closed time = width times closings
--     RowsSound                   every row of a canonical history has lawful times, and a payload in its kind's range
use Rattle.std.specs.Prelude.{◌≡◌, ℕ, zero, suc, ◌+◌, ◌*◌, ◌<◌, Bool, true, false, List, [], ◌∷◌, ◌++◌, length}
use Rattle.refusals.specs.declared.fault.Side.{Side}
use Rattle.refusals.specs.declared.fault.Side.TheVariants.{Left, Right}
use Rattle.rows.specs.Rows.{Plain, standing, in_kind}
use Rattle.rows.specs.Events.{PlainEvent, insert, retraction, cti}
use Rattle.rows.specs.Times.{whole}
use Rattle.receipts.specs.declared.window.Window.{Window}
use Rattle.receipts.specs.Histories.{up_to}
use Rattle.receipts.specs.Joins.{count_in, Exactly}
use Rattle.receipts.specs.Lists.{In, SameMembers, total, tally, each}
use Rattle.receipts.specs.Queries.{Setup, QueryState, new_query, Call}
use Rattle.receipts.specs.Sides.{pick}
use Rattle.receipts.specs.Transcripts.{Exchange, transcript, after, events_on, histories, lines_in, windows_in}

-- the calls on a new query with their answers, and the state that they leave
abbrev pub record_of : Setup → List Call → List Exchange
record_of s cs = transcript s new_query cs

abbrev pub left_by : Setup → List Call → QueryState
left_by s cs = after s new_query cs

abbrev pub closed_time_of : Setup → List Call → ℕ
closed_time_of s cs = (left_by s cs).closed

abbrev pub counts : List Exchange → List ℕ
counts ts = each (λ w. w.count) (windows_in ts)

abbrev pub ReceiptsExact : Type 0
ReceiptsExact = (s : Setup) (cs : List Call) → 0 < s.width →
    Exactly s.kinds (closed_time_of s cs) (histories (record_of s cs)) (lines_in (record_of s cs))

-- Two queries of one width and the same payload kinds, with stores of any capacity, each after its own calls: where they
-- come to one closed time, and side for side their histories up to it have the same rows, lines and counts are equal, each
-- in order.
abbrev pub ReceiptsDetermined : Type 0
ReceiptsDetermined = (s t : Setup) (cs ds : List Call) → 0 < s.width →
    s.width ≡ t.width → s.kinds ≡ t.kinds → closed_time_of s cs ≡ closed_time_of t ds →
    ((x : Side) → SameMembers
    (up_to (closed_time_of s cs) (pick x (histories (record_of s cs))))
    (up_to (closed_time_of s cs) (pick x (histories (record_of t ds))))) →
    (lines_in (record_of s cs) ≡ lines_in (record_of t ds)) × (counts (record_of s cs) ≡ counts (record_of t ds))

-- A count was told from the rows held then; it is right for the whole histories, whatever came later.
abbrev pub CountsTrue : Type 0
CountsTrue = (s : Setup) (cs : List Call) → 0 < s.width →
    (w : Window) → In w (windows_in (record_of s cs)) →
    w.count ≡ count_in w.start w.end (histories (record_of s cs))

-- the windows from 0 on, n of them, each of the width
abbrev pub grid : ℕ → ℕ → List (ℕ × ℕ)
grid width zero = []
grid width (suc n) = grid width n ++ ((width * n, width * n + width) ∷ [])

abbrev pub bounds : Window → ℕ × ℕ
bounds w = (w.start, w.end)

abbrev pub inserts : PlainEvent → Bool
inserts (insert r) = true
inserts (retraction r e) = false
inserts (cti t) = false

-- a retraction that takes its row away whole
abbrev pub takes_whole : PlainEvent → Bool
takes_whole (insert r) = false
takes_whole (retraction r e) = whole r.start e
takes_whole (cti t) = false

abbrev pub purged_on : Side → Window → ℕ
purged_on Left w = w.purged_left
purged_on Right w = w.purged_right

abbrev pub AccountsBalance : Type 0
AccountsBalance = (s : Setup) (cs : List Call) →
    ((x : Side) →
    tally inserts (events_on x (record_of s cs))
    ≡ tally takes_whole (events_on x (record_of s cs))
    + total (purged_on x) (windows_in (record_of s cs))
    + length (pick x (left_by s cs).halves).held)
    × (closed_time_of s cs ≡ s.width * length (windows_in (record_of s cs)))
    × (each bounds (windows_in (record_of s cs)) ≡ grid s.width (length (windows_in (record_of s cs))))
    × (total (λ w. w.lines) (windows_in (record_of s cs)) ≡ length (lines_in (record_of s cs)))

abbrev pub RowsSound : Type 0
RowsSound = (s : Setup) (cs : List Call) (x : Side) (r : Plain) → In r (pick x (histories (record_of s cs))) →
    (standing r ≡ true) × (in_kind (pick x s.kinds) r ≡ true)
