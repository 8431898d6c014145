-- What taking from a source gives and leaves.
--     PlainTaken                  an event under its number, or an ending, as numbers
--     taken_as pair t             what the code's call gave, as numbers
--     next_in src                 the first event of the stream src, or its ending where none is left
--     rest_of src                 the stream src without its first event
use Rattle.std.specs.Prelude.{ℕ, List, [], ◌∷◌, Option, Some, None, Result, Ok, Err}
use Rattle.refusals.specs.declared.fault.Fault.{Fault}
use Rattle.refusals.specs.Faults.{Ending}
use Rattle.rows.specs.Events.{PlainEvent, plain_event}
use Rattle.rows.specs.Kinds.{Pair}
use Rattle.receipts.specs.Histories.{Entry}
use Rattle.rewriting.specs.Streams.{Stream}
use Rattle.sources.specs.declared.source.Numbered.{Numbered}

pub data PlainTaken : Type 0 where
  next : ℕ → PlainEvent → PlainTaken
  ended : Ending → PlainTaken

abbrev pub taken_as : {P : Type 0} → (P → Pair) → Result (Option (Numbered P)) Fault → PlainTaken
taken_as pair (Ok (Some x)) = next x.number (plain_event pair x.event)
taken_as pair (Ok None) = ended (Ok tt)
taken_as pair (Err f) = ended (Err f)

abbrev pub first_of : List Entry → Ending → PlainTaken
first_of [] w = ended w
first_of (x ∷ xs) w = next x.0 x.1

abbrev pub next_in : Stream → PlainTaken
next_in src = first_of src.entries src.ending

abbrev pub behind : List Entry → List Entry
behind [] = []
behind (x ∷ xs) = xs

-- a source that has ended stays as it is
abbrev pub rest_of : Stream → Stream
rest_of src = record { entries = behind src.entries; ending = src.ending; depth = src.depth }
