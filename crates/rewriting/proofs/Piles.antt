-- Piles of layers: what one layer does to a legal list, each in turn does to the list below it.
use Rattle.std.proofs.Common.{◌≡◌, List, [], ◌∷◌, ◌++◌, refl, Ok}
use Rattle.rows.specs.Rows.{Plain}
use Rattle.receipts.specs.Histories.{events}
use Rattle.receipts.specs.Lists.{SameMembers}
use Rattle.rewriting.specs.Rules.{Rule, Keeps, AllKeep}
use Rattle.rewriting.specs.Streams.{Stream}
use Rattle.rewriting.specs.Layers.{layer, pile, images, through}
use Rattle.rewriting.specs.Laws.{history_of, PilesLawful, PilesGrow}
use Rattle.rewriting.proofs.Held.{distinct_once}
use Rattle.rewriting.proofs.Events.{history_distinct}
use Rattle.rewriting.proofs.Images.{images_same}
use Rattle.rewriting.proofs.Layers.{layers_lawful, layer_end}

through_same : (fs : List Rule) (xs ys : List Plain) → SameMembers xs ys → SameMembers (through fs xs) (through fs ys)
through_same [] xs ys same = same
through_same (f ∷ fs) xs ys same = through_same fs (images f xs) (images f ys) (images_same f xs ys same)

pile_end : (fs : List Rule) (src : Stream) → (pile fs src).ending ≡ Ok tt → src.ending ≡ Ok tt
pile_end [] src h = h
pile_end (f ∷ fs) src h = layer_end f src (pile_end fs (layer f src) h)

pub piles_lawful : PilesLawful
piles_lawful [] src keep ok h = (ok, (λ x. (λ k. k, λ k. k)), distinct_once (history_of src) (history_distinct (events src.entries) ok))
piles_lawful (f ∷ fs) src keep ok h =
    let first = layers_lawful f src keep.0 ok (pile_end fs (layer f src) h) in
    let rest = piles_lawful fs (layer f src) keep.1 first.0 h in
    let same = through_same fs (history_of (layer f src)) (images f (history_of src)) first.1 in
    (rest.0, (λ x. (λ k. (same x).0 ((rest.1 x).0 k), λ k. (rest.1 x).1 ((same x).1 k))), rest.2)

pile_grows : (fs : List Rule) (f : Rule) (src : Stream) → pile (fs ++ (f ∷ [])) src ≡ layer f (pile fs src)
pile_grows [] f src = refl
pile_grows (g ∷ fs) f src = pile_grows fs f (layer g src)

through_grows : (fs : List Rule) (f : Rule) (rows : List Plain) → through (fs ++ (f ∷ [])) rows ≡ images f (through fs rows)
through_grows [] f rows = refl
through_grows (g ∷ fs) f rows = through_grows fs f (images g rows)

keep_grows : (fs : List Rule) (f : Rule) → AllKeep fs → Keeps f → AllKeep (fs ++ (f ∷ []))
keep_grows [] f all one = (one, tt)
keep_grows (g ∷ fs) f all one = (all.0, keep_grows fs f all.1 one)

pub piles_grow : PilesGrow
piles_grow fs f src = (pile_grows fs f src, through_grows fs f (history_of src), keep_grows fs f)
