-- A report without fault over piles: what its calls accepted are the piled streams, whose histories have the rows of the
-- rewritten ones.
use Rattle.std.proofs.Common.{◌≡◌, List, [], ◌∷◌, ◌++◌, sym, refl, ap, ◌∙◌, subst, append-nil, Ok}
use Rattle.refusals.specs.declared.fault.Side.{Side}
use Rattle.refusals.specs.declared.fault.Side.TheVariants.{Left, Right}
use Rattle.rows.specs.Rows.{Plain}
use Rattle.receipts.specs.Histories.{history}
use Rattle.receipts.specs.Laws.{record_of}
use Rattle.receipts.specs.Lists.{Once, SameMembers}
use Rattle.receipts.specs.Queries.{Setup}
use Rattle.receipts.specs.Sides.{Both, pick}
use Rattle.receipts.specs.Transcripts.{events_on, histories}
use Rattle.rewriting.specs.Laws.{history_of, LegalWith}
use Rattle.rewriting.specs.Layers.{pile, images, through, rewritten_history}
use Rattle.rewriting.specs.Rules.{Rule}
use Rattle.rewriting.specs.Streams.{Stream}
use Rattle.rewriting.proofs.Events.{history_distinct}
use Rattle.rewriting.proofs.Held.{Distinct}
use Rattle.rewriting.proofs.Images.{images_distinct}
use Rattle.rewriting.proofs.Piles.{piles_lawful}
use Rattle.run_laws.specs.Runs.{Report}
use Rattle.run_laws.specs.Laws.{events_of, Made, piled, rewritten_histories, Lawful}

-- at END the accepted events are all events
pub all_events : (s : Setup) (srcs : Both Stream) (a : Report) (m : Made s srcs a) → a.ending ≡ Ok tt →
    (x : Side) → events_on x (record_of s m.calls) ≡ events_of x srcs
all_events s srcs a m ends x =
    sym (append-nil (events_on x (record_of s m.calls)))
    ∙ ap (λ es. events_on x (record_of s m.calls) ++ es) (sym ((m.whole ends).0 x).0)
    ∙ m.fronts x

through_distinct : (fs : List Rule) (rows : List Plain) → Distinct rows → Distinct (through fs rows)
through_distinct [] rows d = d
through_distinct (f ∷ fs) rows d = through_distinct fs (images f rows) (images_distinct f rows d)

module _ (fs : Both (List Rule)) (srcs : Both Stream) where
  pick_piled : (x : Side) → pick x (piled fs srcs) ≡ pile (pick x fs) (pick x srcs)
  pick_piled Left = refl
  pick_piled Right = refl

  each_rewritten : (P : Side → List Plain → Type 0) → ((x : Side) → P x (rewritten_history (pick x fs) (pick x srcs))) →
      (x : Side) → P x (pick x (rewritten_histories fs srcs))
  each_rewritten P h Left = h Left
  each_rewritten P h Right = h Right

  -- no id comes twice in a rewritten history
  pub rewritten_distinct : Lawful fs srcs → (x : Side) → Distinct (pick x (rewritten_histories fs srcs))
  rewritten_distinct lawful =
      each_rewritten (λ x rows. Distinct rows)
      (λ x. through_distinct (pick x fs) (history_of (pick x srcs)) (history_distinct (events_of x srcs) (lawful x).0))

  module _ (s : Setup) (a : Report) (lawful : Lawful fs srcs) (m : Made s (piled fs srcs) a) (ends : a.ending ≡ Ok tt) where
    pile_lawful : (x : Side) → LegalWith (rewritten_history (pick x fs) (pick x srcs)) (pile (pick x fs) (pick x srcs))
    pile_lawful x =
        piles_lawful (pick x fs) (pick x srcs) (lawful x).1 (lawful x).0
        (ap (λ (src : Stream). src.ending) (sym (pick_piled x)) ∙ ((m.whole ends).0 x).1)

    pile_history : (x : Side) → history_of (pile (pick x fs) (pick x srcs)) ≡ history (events_on x (record_of s m.calls))
    pile_history x = sym (ap history (all_events s (piled fs srcs) a m ends x) ∙ ap history_of (pick_piled x))

    -- what holds of the history of each side's accepted events
    each_history : (P : Side → List Plain → Type 0) → ((x : Side) → P x (history_of (pile (pick x fs) (pick x srcs)))) →
        (x : Side) → P x (pick x (histories (record_of s m.calls)))
    each_history P h Left = subst (P Left) (pile_history Left) (h Left)
    each_history P h Right = subst (P Right) (pile_history Right) (h Right)

    pub histories_same : (x : Side) → SameMembers (pick x (histories (record_of s m.calls))) (pick x (rewritten_histories fs srcs))
    histories_same =
        each_history (λ x rows. SameMembers rows (pick x (rewritten_histories fs srcs)))
        (each_rewritten (λ x rows. SameMembers (history_of (pile (pick x fs) (pick x srcs))) rows) (λ x. (pile_lawful x).1))

    pub histories_once : (x : Side) → Once (pick x (histories (record_of s m.calls)))
    histories_once = each_history (λ x rows. Once rows) (λ x. (pile_lawful x).2)
