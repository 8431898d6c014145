-- One event more of a source. Assumes nothing.
use Rattle.std.proofs.Common.{◌≡◌, ℕ, List, [], ◌∷◌, ◌++◌, sym, refl, ap, ◌∙◌, arith}
use Rattle.refusals.specs.Faults.{Ending}
use Rattle.receipts.specs.Histories.{Entry, events}
use Rattle.rewriting.specs.Streams.{Stream}
use Rattle.rows.specs.declared.event.Event.{Event}
use Rattle.rows.specs.Events.{PlainEvent, plain_event}
use Rattle.rows.specs.Kinds.{Pair}
use Rattle.sources.specs.Taking.{next, first_of, next_in, behind, rest_of}
use Rattle.packing.specs.Collecting.{plains}

first_is : (n : ℕ) (e : PlainEvent) (xs : List Entry) (w : Ending) → next n e ≡ first_of xs w → events xs ≡ e ∷ events (behind xs)
first_is n e [] w h = absurd (let z : ◌≡◌ {A = ℕ} 0 1 = cc in omega arith)
first_is n e (x ∷ xs) w h = let s : e ≡ x.1 = cc in ap (λ y. y ∷ events xs) (sym s)

module _ {P : Type 0} (pair : P → Pair) where
  plains_more : (vs : List (Event P)) (e : Event P) (es : List PlainEvent) → plains pair (vs ++ e ∷ []) ++ es ≡ plains pair vs ++ (plain_event pair e ∷ es)
  plains_more [] e es = refl
  plains_more (v ∷ vs) e es = ap (λ xs. plain_event pair v ∷ xs) (plains_more vs e es)

  -- what was taken, with the next event, and what is left after it
  pub taken_more : (vs ws : List (Event P)) (n : ℕ) (e : Event P) (src left : Stream) (es : List PlainEvent) (w : Ending) →
      next n (plain_event pair e) ≡ next_in src → left ≡ rest_of src → ws ≡ vs ++ e ∷ [] →
      plains pair vs ++ events src.entries ≡ es → src.ending ≡ w →
      (plains pair ws ++ events left.entries ≡ es) × (left.ending ≡ w)
  taken_more vs ws n e src left es w h l p q r = (
    ap (λ xs. plains pair xs ++ events left.entries) p
        ∙ ap (λ (s : Stream). plains pair (vs ++ e ∷ []) ++ events s.entries) l
        ∙ plains_more vs e (events (behind src.entries))
        ∙ ap (λ xs. plains pair vs ++ xs) (sym (first_is n (plain_event pair e) src.entries src.ending h))
        ∙ q,
    ap (λ (s : Stream). s.ending) l ∙ r,
  )
