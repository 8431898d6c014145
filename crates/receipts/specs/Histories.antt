-- Canonical histories and legal lists.
--     moved r e rows              the row of rows that equals r has the end e, or is gone where e is its start
--     applied e rows              the history rows after the event e
--     history es                  the canonical history of the events es
--     up_to t rows                the rows that start below t, each end above t cut to t
--     Entry, events               an event under its number; the events of a numbered list
--     Permitted c rows e          a legal list may go on with e, where c is the latest CTI before it and rows the history so far
--     Legal es                    each event in turn is permitted, and its times are lawful
use Rattle.std.specs.Prelude.{◌≡◌, ℕ, ◌≤◌, min, true, cond, List, [], ◌∷◌, ◌≢◌, nat_lt}
use Rattle.rows.specs.Rows.{Plain, same, with_end}
use Rattle.rows.specs.Events.{PlainEvent, insert, retraction, cti, sync, timely}
use Rattle.rows.specs.Times.{whole}
use Rattle.receipts.specs.Lists.{In}

abbrev pub moved : Plain → ℕ → List Plain → List Plain
moved r e [] = []
moved r e (x ∷ xs) = cond (same x r) (cond (whole r.start e) (moved r e xs) (with_end e x ∷ moved r e xs)) (x ∷ moved r e xs)

-- an insert adds its row; a retraction moves the row that it names
abbrev pub applied : PlainEvent → List Plain → List Plain
applied (insert r) rows = r ∷ rows
applied (retraction r e) rows = moved r e rows
applied (cti t) rows = rows

abbrev pub history_from : List Plain → List PlainEvent → List Plain
history_from rows [] = rows
history_from rows (e ∷ es) = history_from (applied e rows) es

-- it starts empty
abbrev pub history : List PlainEvent → List Plain
history es = history_from [] es

abbrev pub up_to : ℕ → List Plain → List Plain
up_to t [] = []
up_to t (x ∷ xs) = cond (nat_lt x.start t) (with_end (min x.end t) x ∷ up_to t xs) (up_to t xs)

abbrev pub Entry : Type 0
Entry = ℕ × PlainEvent

abbrev pub events : List Entry → List PlainEvent
events [] = []
events (x ∷ xs) = x.1 ∷ events xs

-- the history holds no row with an insert's id, and it holds the row that a retraction names
abbrev pub Fitting : List Plain → PlainEvent → Type 0
Fitting rows (insert r) = (x : Plain) → In x rows → x.id ≢ r.id
Fitting rows (retraction r e) = In r rows
Fitting rows (cti t) = Unit {0}

abbrev pub Permitted : ℕ → List Plain → PlainEvent → Type 0
Permitted c rows e = (timely e ≡ true) × (c ≤ sync e) × Fitting rows e

abbrev pub cti_after : ℕ → PlainEvent → ℕ
cti_after c (insert r) = c
cti_after c (retraction r e) = c
cti_after c (cti t) = t

abbrev pub LegalFrom : ℕ → List Plain → List PlainEvent → Type 0
LegalFrom c rows [] = Unit {0}
LegalFrom c rows (e ∷ es) = Permitted c rows e × LegalFrom (cti_after c e) (applied e rows) es

-- at first the CTI is 0 and the history is empty
abbrev pub Legal : List PlainEvent → Type 0
Legal es = LegalFrom 0 [] es
