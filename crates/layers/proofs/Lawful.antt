-- A layer over a pile is a pile, so the law of piles speaks of it.
use Rattle.std.proofs.Common.{◌≡◌, List, [], ◌∷◌, ◌++◌, None, sym, ap, ◌∙◌, subst}
use Rattle.rewriting.specs.Laws.{LegalWith}
use Rattle.rewriting.specs.Layers.{layer, pile, rewritten_history}
use Rattle.rewriting.specs.Rules.{Rule, Keeps, AllKeep}
use Rattle.rewriting.specs.Streams.{Stream}
use Rattle.rewriting.proofs.Over.{layer_piled, keep_more}
use Rattle.rewriting.proofs.Piles.{piles_lawful}
use Rattle.layers.specs.Lawful.{LayerLawful}

pub layer_lawful : (f : Rule) (fs : List Rule) (foot src : Stream) → src ≡ pile fs foot → AllKeep fs → Keeps f → LayerLawful f fs foot src
layer_lawful f fs foot src e keep keeps legal end =
    let p : layer f src ≡ pile (fs ++ (f ∷ [])) foot = layer_piled None f fs src foot e in
    subst (λ made. LegalWith (rewritten_history (fs ++ (f ∷ [])) foot) made) (sym p)
    (piles_lawful (fs ++ (f ∷ [])) foot (keep_more f fs foot keep keeps) legal (sym (ap (λ made. made.ending) p) ∙ end))
