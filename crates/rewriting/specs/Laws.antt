-- The laws of layers and piles.
--     LayersLawful                over a legal list, a layer that doesn't fault has a legal list, whose history is the rule's
--                                 image of the one below
--     PilesLawful                 so it is with piles of any height
--     PilesGrow                   a pile with one more rule on top is a layer over the pile
--     RulesKeep                   the engine's rules keep the laws of row rules
use Rattle.std.specs.Prelude.{◌≡◌, ℕ, ◌<◌, List, [], ◌∷◌, ◌++◌, Ok}
use Rattle.rows.specs.Kinds.{Kind}
use Rattle.rows.specs.Rows.{Plain}
use Rattle.receipts.specs.Histories.{events, history, Legal}
use Rattle.receipts.specs.Lists.{Once, SameMembers}
use Rattle.rewriting.specs.Rules.{Rule, Keeps, AllKeep}
use Rattle.rewriting.specs.RowRules.{select, shift, set_duration}
use Rattle.rewriting.specs.Streams.{Stream}
use Rattle.rewriting.specs.Layers.{layer, pile, images, rewritten_history}

abbrev pub history_of : Stream → List Plain
history_of src = history (events src.entries)

-- the list is legal, and its history has exactly these rows, each once
abbrev pub LegalWith : List Plain → Stream → Type 0
LegalWith rows src = Legal (events src.entries) × SameMembers (history_of src) rows × Once (history_of src)

abbrev pub LayersLawful : Type 0
LayersLawful = (f : Rule) (src : Stream) → Keeps f → Legal (events src.entries) → (layer f src).ending ≡ Ok tt →
    LegalWith (images f (history_of src)) (layer f src)

abbrev pub PilesLawful : Type 0
PilesLawful = (fs : List Rule) (src : Stream) → AllKeep fs → Legal (events src.entries) → (pile fs src).ending ≡ Ok tt →
    LegalWith (rewritten_history fs src) (pile fs src)

abbrev pub PilesGrow : Type 0
PilesGrow = (fs : List Rule) (f : Rule) (src : Stream) →
    (pile (fs ++ (f ∷ [])) src ≡ layer f (pile fs src))
    × (rewritten_history (fs ++ (f ∷ [])) src ≡ images f (rewritten_history fs src))
    × (AllKeep fs → Keeps f → AllKeep (fs ++ (f ∷ [])))

-- whatever their bounds and numbers are; a duration is not 0
abbrev pub RulesKeep : Type 0
RulesKeep =
    ((k : Kind) (low high least most : ℕ) → Keeps (select k low high least most))
    × ((k : ℕ) → Keeps (shift k))
    × ((d : ℕ) → 0 < d → Keeps (set_duration d))
