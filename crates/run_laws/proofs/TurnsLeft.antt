-- The turns that a run has left: one for each remaining entry of a side, and one for its ending; and the side that is next.
use Rattle.std.proofs.Common.{◌≡◌, ℕ, suc, ◌+◌, Bool, true, false, cond, not, ◌&&◌, ◌||◌, List, [], ◌∷◌, length, refl, ap, arith}
use Rattle.std.proofs.lemmas.Bool.{and_parts}
use Rattle.refusals.specs.declared.fault.Side.{Side}
use Rattle.refusals.specs.declared.fault.Side.TheVariants.{Left, Right}
use Rattle.receipts.specs.Sides.{Both, pick, put}

abbrev unended : Bool → ℕ
unended true = 0
unended false = 1

abbrev pub turns_left : {X : Type 0} → Both (List X) → Both Bool → ℕ
turns_left rest over = length rest.left + unended over.left + (length rest.right + unended over.right)

is_over : (b : Bool) (n : ℕ) → n + unended b ≡ 0 → b ≡ true
is_over true n h = refl
is_over false n h = absurd (omega (arith, h))

module _ {X : Type 0} (rest : Both (List X)) (over : Both Bool) where
  pub entry_takes_one : (x : Side) (e : X) (es : List X) (n : ℕ) → pick x rest ≡ e ∷ es →
      turns_left rest over ≡ suc n → turns_left (put x es rest) over ≡ n
  entry_takes_one Left e es n next t = omega (arith, ap length next, t)
  entry_takes_one Right e es n next t = omega (arith, ap length next, t)

  pub ending_takes_one : (x : Side) (n : ℕ) → pick x rest ≡ [] → pick x over ≡ false →
      turns_left rest over ≡ suc n → turns_left rest (put x true over) ≡ n
  ending_takes_one Left n none still t = omega (arith, ap length none, ap unended still, t)
  ending_takes_one Right n none still t = omega (arith, ap length none, ap unended still, t)

  pub none_left : turns_left rest over ≡ 0 → (x : Side) → pick x over ≡ true
  none_left h Left = is_over over.left (length rest.left) (omega (arith, h))
  none_left h Right = is_over over.right (length rest.right) (omega (arith, h))

pub both_over : (over : Both Bool) → (over.left && over.right) ≡ true → (x : Side) → pick x over ≡ true
both_over over all Left = (and_parts over.left over.right all).0
both_over over all Right = (and_parts over.left over.right all).1

-- the side that is next has not ended, unless both have
pub next_unended : (l r earlier : Bool) → (l && r) ≡ false →
    pick (cond (not l && (r || earlier)) Left Right) (record { left = l; right = r }) ≡ false
next_unended true r earlier h = h
next_unended false true earlier h = refl
next_unended false false true h = refl
next_unended false false false h = refl
