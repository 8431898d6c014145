-- What a layer over a legal source is.
--     LayerLawful f fs foot src       where the list at the foot of a pile by the rules fs is legal, and the layer by f over the
--                                 pile src does not fault, its list is legal, and its history has exactly the rows of the
--                                 foot's history put through fs and then f, each once
use Rattle.std.specs.Prelude.{◌≡◌, List, [], ◌∷◌, ◌++◌, Ok}
use Rattle.receipts.specs.Histories.{events, Legal}
use Rattle.rewriting.specs.Laws.{LegalWith}
use Rattle.rewriting.specs.Layers.{layer, rewritten_history}
use Rattle.rewriting.specs.Rules.{Rule}
use Rattle.rewriting.specs.Streams.{Stream}

abbrev pub LayerLawful : Rule → List Rule → Stream → Stream → Type 0
LayerLawful f fs foot src =
    Legal (events foot.entries) → (layer f src).ending ≡ Ok tt →
    LegalWith (rewritten_history (fs ++ (f ∷ [])) foot) (layer f src)
