-- The lists of the worked example are legal, and its rules keep their laws.
use Rattle.std.proofs.Common.{◌≡◌, ℕ, List, [], ◌∷◌, sym, refl, ap, ◌∙◌, inl, inr, ⊎_elim, arith}
use Rattle.refusals.specs.declared.fault.Side.TheVariants.{Left, Right}
use Rattle.rows.specs.Rows.{Plain}
use Rattle.rows.specs.Times.{forever}
use Rattle.kinds.specs.Kinds.{tallies, readings, unlimited}
use Rattle.receipts.specs.Examples.{row}
use Rattle.receipts.specs.Histories.{Legal}
use Rattle.rewriting.proofs.Held.{Free}
use Rattle.rewriting.proofs.RowRules.{rules_keep}
use Rattle.run_laws.specs.Examples.{hall_streams, hall_rules}
use Rattle.run_laws.specs.Laws.{events_of, Lawful}

-- an id that neither the first row nor those behind it have
free : (i : ℕ) (x : Plain) (xs : List Plain) → (x.id ≡ i → ⊥) → Free i xs → Free i (x ∷ xs)
free i x xs other rest y h e = ⊎_elim (λ p. other (sym (ap (λ (z : Plain). z.id) p) ∙ e)) (λ k. rest y k e) h

none : (i : ℕ) → Free i []
none i x h e = h

left_legal : Legal (events_of Left hall_streams)
left_legal = (
  (refl, omega arith, none 1),
  (
    (refl, omega arith, free 2 (row 1 10 forever 7 2) [] (λ e. omega (arith, e)) (none 2)),
    (
      (refl, omega arith, tt),
      (
        (refl, omega arith, inr (inl refl)),
        (
          (refl, omega arith, tt),
          tt,
        ),
      ),
    ),
  ),
)

right_legal : Legal (events_of Right hall_streams)
right_legal =
    let moved : Plain = row 1 15 90 7 4095 in (
      (refl, omega arith, none 1),
      (
        (refl, omega arith, tt),
        (
          (refl, omega arith, inl refl),
          (
            (refl, omega arith, free 2 moved [] (λ e. omega (arith, e)) (none 2)),
            (
              (
                refl,
                omega arith,
                free 3 (row 2 90 forever 7 1000) (moved ∷ []) (λ e. omega (arith, e)) (free 3 moved [] (λ e. omega (arith, e)) (none 3)),
              ),
              (
                (refl, omega arith, tt),
                tt,
              ),
            ),
          ),
        ),
      ),
    )

pub hall_lawful : Lawful hall_rules hall_streams
hall_lawful Left = (left_legal, (rules_keep.0 tallies 0 8999 0 unlimited, tt))
hall_lawful Right = (right_legal, (rules_keep.0 readings 0 8999 0 unlimited, tt))
