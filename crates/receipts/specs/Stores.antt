-- What a store means: its rows in rising id order, each id once, and what each call answers and leaves.
--     Rising rows                 the ids rise, so that each comes once
--     found id rows               the row of an id, or none
--     first_from id rows          the row with the least id that is not below id, or none
--     nth_row i rows              the row at a place in id order, or none
--     placed r rows               rows with r at its place in id order
--     end_set id e rows           rows with the end e for the row of the id
--     without id rows             rows without the row of the id
--     kept g rows, gone g rows    the rows that a purge below g leaves; how many go
--     Outcome X                   what a call answers, and what it leaves
--     adds capacity r rows        adding r: IdInUse where its id is held, else StoreFull at capacity
--     sets id e rows              setting an end: NoSuchRow, or BadTime where the held row may not have it
--     removes id rows             removing a row: NoSuchRow
use Rattle.std.specs.Prelude.{ℕ, zero, suc, ◌<◌, Bool, false, cond, ◌||◌, List, [], ◌∷◌, length, Some, None, Ok, Err, Option, Result, ◌==◌, nat_le, nat_lt}
use Rattle.refusals.specs.declared.refusal.Refusal.{Refusal}
use Rattle.refusals.specs.declared.refusal.Refusal.TheVariants.{BadTime, IdInUse, NoSuchRow, StoreFull}
use Rattle.rows.specs.Rows.{Plain, with_end}
use Rattle.rows.specs.Times.{lawful}
use Rattle.receipts.specs.Lists.{tally}

-- each id is below all ids behind it
abbrev pub Above : ℕ → List Plain → Type 0
Above id [] = Unit {0}
Above id (x ∷ xs) = (id < x.id) × Above id xs

abbrev pub Rising : List Plain → Type 0
Rising [] = Unit {0}
Rising (x ∷ xs) = Above x.id xs × Rising xs

abbrev pub found : ℕ → List Plain → Option Plain
found id [] = None
found id (x ∷ xs) = cond (x.id == id) (Some x) (found id xs)

abbrev pub first_from : ℕ → List Plain → Option Plain
first_from id [] = None
first_from id (x ∷ xs) = cond (nat_le id x.id) (Some x) (first_from id xs)

abbrev pub nth_row : ℕ → List Plain → Option Plain
nth_row i [] = None
nth_row zero (x ∷ xs) = Some x
nth_row (suc i) (x ∷ xs) = nth_row i xs

abbrev pub holds_id : ℕ → List Plain → Bool
holds_id id [] = false
holds_id id (x ∷ xs) = x.id == id || holds_id id xs

abbrev pub placed : Plain → List Plain → List Plain
placed r [] = r ∷ []
placed r (x ∷ xs) = cond (nat_lt r.id x.id) (r ∷ (x ∷ xs)) (x ∷ placed r xs)

abbrev pub end_set : ℕ → ℕ → List Plain → List Plain
end_set id e [] = []
end_set id e (x ∷ xs) = cond (x.id == id) (with_end e x ∷ xs) (x ∷ end_set id e xs)

abbrev pub without : ℕ → List Plain → List Plain
without id [] = []
without id (x ∷ xs) = cond (x.id == id) xs (x ∷ without id xs)

-- a row that ends at g stays
abbrev pub kept : ℕ → List Plain → List Plain
kept g [] = []
kept g (x ∷ xs) = cond (nat_lt x.end g) (kept g xs) (x ∷ kept g xs)

abbrev pub gone : ℕ → List Plain → ℕ
gone g rows = tally (λ x. nat_lt x.end g) rows

pub record Outcome (X : Type 0) : Type 0 where
  pub answer : Result (Unit {0}) Refusal
  pub after : X

abbrev pub accept : {X : Type 0} → X → Outcome X
accept x = record { answer = Ok tt; after = x }

-- a refused call changes nothing
abbrev pub refuse : {X : Type 0} → Refusal → X → Outcome X
refuse why x = record { answer = Err why; after = x }

abbrev pub adds : ℕ → Plain → List Plain → Outcome (List Plain)
adds capacity r rows =
    cond (holds_id r.id rows) (refuse IdInUse rows)
    (cond (nat_le capacity (length rows)) (refuse StoreFull rows) (accept (placed r rows)))

abbrev pub sets_on : Option Plain → ℕ → ℕ → List Plain → Outcome (List Plain)
sets_on None id e rows = refuse NoSuchRow rows
sets_on (Some x) id e rows = cond (lawful x.start e) (accept (end_set id e rows)) (refuse BadTime rows)

abbrev pub sets : ℕ → ℕ → List Plain → Outcome (List Plain)
sets id e rows = sets_on (found id rows) id e rows

abbrev pub removes : ℕ → List Plain → Outcome (List Plain)
removes id rows = cond (holds_id id rows) (accept (without id rows)) (refuse NoSuchRow rows)
