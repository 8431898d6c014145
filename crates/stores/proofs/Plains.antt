-- Rows of the code as plain numbers.
use Rattle.std.proofs.Common.{◌≡◌, ℕ, ◌≤◌, true, eqb, length, List, [], ◌∷◌, map, sym, ap, ⊎_elim, arith}
use Rattle.std.proofs.lemmas.List.{get_or-map, length-map}
use Rattle.std.proofs.lemmas.Bool.{and_from, or_left, or_right, le-leb, lt-ltb, eq-eqb, cases_lt}
use Rattle.std.specs.List.Sorted.{IsNonDecreasingBy}
use Rattle.rows.specs.declared.row.PlainRow.{PlainRow}
use Rattle.rows.specs.declared.span.Span.{Span}
use Rattle.rows.specs.Rows.{plain}
use Rattle.rows.specs.Times.{lawful, last, forever, finite}
use Rattle.receipts.specs.Stores.{Rising}
use Rattle.stores.specs.Told.{Numbered, Standing}
use Rattle.stores.specs.Places.{below, id_of, place}
use Rattle.stores.proofs.Places.{below_map, rises_rising}

pub span_lawful : (s : Span) → lawful s.start s.end ≡ true
span_lawful s =
    and_from _ _ (le-leb s.start last s.begun)
    (and_from _ _
    (⊎_elim (λ lt. or_right (finite s.end) _ (eq-eqb s.end forever (s.ended lt))) (λ le. or_left _ (eqb s.end forever) (le-leb s.end last le)) (cases_lt last s.end))
    (lt-ltb s.start s.end s.forward))

pub within_plain : (n : ℕ) (rows : List PlainRow) → length rows ≤ n → length (map plain rows) ≤ n
within_plain n rows le = omega (arith, length-map rows plain)

pub numbered_plain : (rows : List PlainRow) → Numbered (map plain rows)
numbered_plain [] = tt
numbered_plain (r ∷ rows) = (r.numbered, numbered_plain rows)

pub standing_plain : (rows : List PlainRow) → Standing (map plain rows)
standing_plain [] = tt
standing_plain (r ∷ rows) = (span_lawful r.span, standing_plain rows)

pub rises_plain : (rows : List PlainRow) → Rising (map plain rows) → IsNonDecreasingBy (λ (r : PlainRow). r.id) rows
rises_plain rows h i j d le lt =
    let up = rises_rising (map plain rows) h i j (plain d) le (omega (arith, length-map rows plain)) in
    omega (arith, up, ap id_of (get_or-map plain rows i d (plain d) (omega arith)), ap id_of (get_or-map plain rows j d (plain d) lt))

pub place_plain : (id : ℕ) (rows : List PlainRow) → below (λ (r : PlainRow). r.id) id rows ≡ place id (map plain rows)
place_plain id rows = sym (below_map id_of plain id rows)
