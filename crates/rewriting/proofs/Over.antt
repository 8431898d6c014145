-- A layer that has met its fault is a pile over a stream that has: the rules of a layer are those below it and its own.
use Rattle.std.proofs.Common.{◌≡◌, List, [], ◌∷◌, ◌++◌, Some, None, Option, sym, refl, ap, ◌∙◌}
use Rattle.refusals.specs.declared.fault.Fault.{Fault}
use Rattle.rewriting.specs.Rules.{Rule, Keeps, AllKeep}
use Rattle.rewriting.specs.Streams.{Stream, over}
use Rattle.rewriting.specs.Layers.{layer, pile}
use Rattle.rewriting.proofs.Piles.{piles_grow}

layer_over : (o : Option Fault) (f : Rule) (src : Stream) → layer f (over o src) ≡ over o (layer f src)
layer_over None f src = refl
layer_over (Some w) f src = refl

pile_over : (o : Option Fault) (fs : List Rule) (src : Stream) → pile fs (over o src) ≡ over o (pile fs src)
pile_over o [] src = refl
pile_over o (f ∷ fs) src = ap (pile fs) (layer_over o f src) ∙ pile_over o fs (layer f src)

pub layer_piled : (o : Option Fault) (f : Rule) (fs : List Rule) (below foot : Stream) → below ≡ pile fs foot →
    over o (layer f below) ≡ pile (fs ++ (f ∷ [])) (over o foot)
layer_piled o f fs below foot e =
    ap (λ src. over o (layer f src)) e
    ∙ ap (over o) (sym (piles_grow fs f foot).0)
    ∙ sym (pile_over o (fs ++ (f ∷ [])) foot)

pub keep_more : (f : Rule) (fs : List Rule) (foot : Stream) → AllKeep fs → Keeps f → AllKeep (fs ++ (f ∷ []))
keep_more f fs foot = (piles_grow fs f foot).2
