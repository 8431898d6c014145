-- A layer over a legal list: its list is legal, and its history the rule's image of the one below.
use Rattle.std.proofs.Common.{◌≡◌, ℕ, List, [], ◌∷◌, sym, refl, ap, ◌∙◌, subst, inl, arith, Ok}
use Rattle.std.proofs.lemmas.Bool.{cond-true}
use Rattle.refusals.specs.Faults.{Ending}
use Rattle.refusals.specs.declared.refusal.Refusal.TheVariants.{BadTime}
use Rattle.rows.specs.Rows.{Plain}
use Rattle.rows.specs.Events.{PlainEvent, timely}
use Rattle.receipts.specs.Histories.{applied, history_from, Entry, events, Fitting, cti_after, LegalFrom}
use Rattle.rewriting.specs.Rules.{Rule, Keeps}
use Rattle.rewriting.specs.Streams.{Stream, deeper}
use Rattle.rewriting.specs.Layers.{Rewritten, vanishes, is_now, refused, remade, rewritten, entries_from, layered, ending_from, layered_ending, layer, images}
use Rattle.rewriting.specs.Laws.{history_of, LayersLawful}
use Rattle.rewriting.proofs.Held.{held, Distinct, distinct_once, held_same}
use Rattle.rewriting.proofs.Events.{put_event, fitting_fits, fits_fitting, applied_held, applied_distinct}
use Rattle.rewriting.proofs.Images.{image_of, images_distinct, held_images}
use Rattle.rewriting.proofs.Agree.{Latest}
use Rattle.rewriting.proofs.Steps.{Step, step}

-- the history up is the image of the history rows, id by id
record Over (f : Rule) (rows up : List Plain) : Type 0 where
  below : Distinct rows
  above : Distinct up
  imaged : (j : ℕ) → held up j ≡ image_of f (held rows j)

-- Where the histories so far are rows below and up above: the entries zs made of xs are legal, and the histories after them
-- are again over each other.
abbrev Carried : Rule → ℕ → List Plain → List Plain → List Entry → List Entry → Type 0
Carried f d rows up xs zs = LegalFrom d up (events zs) × Over f (history_from rows (events xs)) (history_from up (events zs))

module _ (f : Rule) (laws : Keeps f) (depth : ℕ) (ending : Ending) where
  along : (xs : List Entry) (c d : ℕ) (rows up : List Plain) → Latest f c d → Over f rows up → LegalFrom c rows (events xs) →
      layered_ending f depth xs ending ≡ Ok tt → Carried f d rows up xs (layered f xs)
  along [] c d rows up latest over legal h = (tt, over)
  along (x ∷ xs) c d rows up latest over legal h =
      go (rewritten f e) stepped h
      (λ d2 up2 latest2 over2 h2. along xs (cti_after c e) d2 (applied e rows) up2 latest2 over2 legal.1 h2)
    where
      e : PlainEvent
      e = x.1

      fitting : Fitting rows e
      fitting = legal.0.2

      stepped : Step f c d (held rows) (held up) e (rewritten f e)
      stepped = subst (λ w. Step f c d (held rows) (held up) e w) (sym (cond-true (timely e) (remade f e) (refused BadTime) legal.0.0))
          (step f laws c d (held rows) (held up) latest over.imaged e legal.0.0 legal.0.1 (fitting_fits rows e over.below fitting))

      below_now : Distinct (applied e rows)
      below_now = applied_distinct rows e over.below fitting

      image_now : (j : ℕ) → image_of f (put_event e (held rows) j) ≡ image_of f (held (applied e rows) j)
      image_now j = sym (ap (image_of f) (applied_held rows e j over.below fitting))

      go : (w : Rewritten) → Step f c d (held rows) (held up) e w → ending_from w depth x.0 (layered_ending f depth xs ending) ≡ Ok tt →
          ((d2 : ℕ) (up2 : List Plain) → Latest f (cti_after c e) d2 → Over f (applied e rows) up2 →
          layered_ending f depth xs ending ≡ Ok tt → Carried f d2 (applied e rows) up2 xs (layered f xs)) →
          Carried f d rows up (x ∷ xs) (entries_from w x.0 (layered f xs))
      go vanishes s h rest = rest d up s.latest (record { below = below_now; above = over.above; imaged = λ j. s.imaged j ∙ image_now j }) h
      go (is_now u) s h rest =
          let fits : Fitting up u = fits_fitting up u s.allowed.2 in
          let over2 : Over f (applied e rows) (applied u up) = record {
            below = below_now;
            above = applied_distinct up u over.above fits;
            imaged = λ j. applied_held up u j over.above fits ∙ s.imaged j ∙ image_now j;
          } in
          let r = rest (cti_after d u) (applied u up) s.latest over2 h in
          (((s.allowed.0, s.allowed.1, fits), r.0), r.1)
      go (refused why) s h rest = absurd (grind arith)

pub layers_lawful : LayersLawful
layers_lawful f src laws legal h =
    let r = along f laws (deeper src.depth) src.ending src.entries 0 0 [] []
    (inl refl) (record { below = tt; above = tt; imaged = λ j. refl }) legal h in
    let rows = history_of src in
    let up = history_of (layer f src) in
    let over : Over f rows up = r.1 in (
      r.0,
      held_same up (images f rows) over.above (images_distinct f rows over.below) (λ j. over.imaged j ∙ sym (held_images f rows j over.below)),
      distinct_once up over.above,
    )

-- a layer that doesn't fault stands over a source that doesn't
pub layer_end : (f : Rule) (src : Stream) → (layer f src).ending ≡ Ok tt → src.ending ≡ Ok tt
layer_end f src = from src.entries
  where
    from : (xs : List Entry) → layered_ending f (deeper src.depth) xs src.ending ≡ Ok tt → src.ending ≡ Ok tt
    from [] h = h
    from (x ∷ xs) h = from xs (grind arith)
