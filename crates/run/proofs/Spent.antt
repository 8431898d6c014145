-- An ending that is taken from a side takes one of the turns left.
use Rattle.std.proofs.Common.{◌≡◌, ℕ, zero, suc, ◌+◌, Bool, true, false, List, [], sym, refl, ap, ◌∙◌, add-one}
use Rattle.std.proofs.lemmas.Bool.{both_ways}
use Rattle.refusals.specs.declared.fault.Side.{Side}
use Rattle.receipts.specs.Histories.{Entry}
use Rattle.receipts.specs.Sides.{Both, pick, put}
use Rattle.receipts.proofs.Sides.{put_same}
use Rattle.run_laws.proofs.TurnsLeft.{turns_left, ending_takes_one, none_left}
use Rattle.sources.specs.Taking.{behind}

module _ (rest : Both (List Entry)) (over : Both Bool) where
  pub ending_spends : (side : Side) (es : List Entry) → pick side rest ≡ es → es ≡ [] → pick side over ≡ false →
      turns_left (put side (behind es) rest) (put side true over) + 1 ≡ turns_left rest over
  ending_spends side es is none still =
      ap (λ left. turns_left (put side left rest) (put side true over) + 1) (ap behind none ∙ sym none ∙ sym is)
      ∙ ap (λ lists. turns_left lists (put side true over) + 1) (put_same side rest)
      ∙ of_left (turns_left rest over) refl
    where
      of_left : (n : ℕ) → turns_left rest over ≡ n → turns_left rest (put side true over) + 1 ≡ n
      of_left zero t = absurd (both_ways (pick side over) still (none_left rest over t side))
      of_left (suc n) t = ap (λ k. k + 1) (ending_takes_one rest over side n (is ∙ none) still t) ∙ add-one n
