-- What an event of a legal list does to the history, id by id.
use Rattle.std.proofs.Common.{◌≡◌, ℕ, cond, eqb, List, [], ◌∷◌, Some, None, Option, refl, ap, ◌∙◌, arith}
use Rattle.std.proofs.lemmas.Bool.Decides.{nat_tests}
use Rattle.std.specs.List.{filter_map}
use Rattle.std.specs.Option.{option_and_then}
use Rattle.rows.specs.Rows.{Plain, same, with_end}
use Rattle.rows.specs.Events.{PlainEvent, insert, retraction, cti}
use Rattle.rows.specs.Times.{whole}
use Rattle.receipts.specs.Lists.{In}
use Rattle.receipts.specs.Histories.{moved, applied, history_from, history, Fitting, cti_after, LegalFrom, Legal}
use Rattle.rewriting.proofs.Held.{held, Distinct, free_held, held_free, in_held, held_in}
use Rattle.rewriting.proofs.FilterMap.{filter_map_distinct, held_filter_map}

-- a history as the row under each id, if any
abbrev pub ById : Type 0
ById = ℕ → Option Plain

abbrev pub put : ℕ → Option Plain → ById → ById
put i o h j = cond (eqb i j) o (h j)

-- what a retraction to e leaves of a row
abbrev pub remains : Plain → ℕ → Option Plain
remains r e = cond (whole r.start e) None (Some (with_end e r))

abbrev pub put_event : PlainEvent → ById → ById
put_event (insert r) h = put r.id (Some r) h
put_event (retraction r e) h = put r.id (remains r e) h
put_event (cti t) h = h

abbrev pub Fits : ById → PlainEvent → Type 0
Fits h (insert r) = h r.id ≡ None
Fits h (retraction r e) = h r.id ≡ Some r
Fits h (cti t) = Unit {0}

pub fitting_fits : (rows : List Plain) (e : PlainEvent) → Distinct rows → Fitting rows e → Fits (held rows) e
fitting_fits rows (insert r) d fitting = free_held r.id rows fitting
fitting_fits rows (retraction r e) d fitting = in_held rows r d fitting
fitting_fits rows (cti t) d fitting = tt

pub fits_fitting : (rows : List Plain) (e : PlainEvent) → Fits (held rows) e → Fitting rows e
fits_fitting rows (insert r) fits = held_free r.id rows fits
fits_fitting rows (retraction r e) fits = (held_in rows r.id r fits).0
fits_fitting rows (cti t) fits = tt

module _ (r : Plain) (e : ℕ) where
  -- what a retraction of r to e makes of each row
  abbrev moved_row : Plain → Option Plain
  moved_row x = cond (same x r) (cond (whole r.start e) None (Some (with_end e x))) (Some x)

  moved_row_id : (x y : Plain) → moved_row x ≡ Some y → y.id ≡ x.id
  moved_row_id x y some = grind (arith, nat_tests)

  moved_filter_map : (xs : List Plain) → moved r e xs ≡ filter_map moved_row xs
  moved_filter_map [] = refl
  moved_filter_map (x ∷ xs) = let rest = moved_filter_map xs in grind (arith, nat_tests)

  moved_distinct : (xs : List Plain) → Distinct xs → Distinct (moved r e xs)
  moved_distinct xs d = rw (moved_filter_map xs) (filter_map_distinct moved_row moved_row_id xs d)

  -- the rows of other ids stay
  moved_at : (j : ℕ) (o : Option Plain) → ((x : Plain) → o ≡ Some x → x.id ≡ j) → (j ≡ r.id → o ≡ Some r) →
      option_and_then moved_row o ≡ cond (eqb r.id j) (remains r e) o
  moved_at j o its-id here = grind (arith, nat_tests)

  held_moved : (xs : List Plain) (j : ℕ) → Distinct xs → In r xs → held (moved r e xs) j ≡ put r.id (remains r e) (held xs) j
  held_moved xs j d h =
      ap (λ ys. held ys j) (moved_filter_map xs)
      ∙ held_filter_map moved_row moved_row_id xs j d
      ∙ moved_at j (held xs j) (λ x some. (held_in xs j x some).1) (λ p. ap (held xs) p ∙ in_held xs r d h)

pub applied_held : (rows : List Plain) (e : PlainEvent) (j : ℕ) → Distinct rows → Fitting rows e → held (applied e rows) j ≡ put_event e (held rows) j
applied_held rows (insert r) j d fitting = refl
applied_held rows (retraction r e) j d fitting = held_moved r e rows j d fitting
applied_held rows (cti t) j d fitting = refl

pub applied_distinct : (rows : List Plain) (e : PlainEvent) → Distinct rows → Fitting rows e → Distinct (applied e rows)
applied_distinct rows (insert r) d fitting = (fitting, d)
applied_distinct rows (retraction r e) d fitting = moved_distinct r e rows d
applied_distinct rows (cti t) d fitting = d

pub history_distinct : (es : List PlainEvent) → Legal es → Distinct (history es)
history_distinct es legal = from 0 [] es tt legal
  where
    from : (c : ℕ) (rows : List Plain) (es : List PlainEvent) → Distinct rows → LegalFrom c rows es → Distinct (history_from rows es)
    from c rows [] d legal = d
    from c rows (e ∷ es) d legal = from (cti_after c e) (applied e rows) es (applied_distinct rows e d legal.0.2) legal.1
