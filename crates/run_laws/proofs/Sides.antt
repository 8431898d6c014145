-- What holds of each side after something is put on one, and where both have the same.
use Rattle.std.proofs.Common.{◌≡◌, refl}
use Rattle.refusals.specs.declared.fault.Side.{Side}
use Rattle.refusals.specs.declared.fault.Side.TheVariants.{Left, Right}
use Rattle.receipts.specs.Sides.{Both, pick, put, twice}

module _ {X : Type 0} where
  pub pick_twice : (v : X) (z : Side) → pick z (twice v) ≡ v
  pick_twice v Left = refl
  pick_twice v Right = refl

  -- what holds of the new value on its side, and of the old ones on theirs
  pub each_put : (P : Side → X → Type 0) (x : Side) (v : X) (b : Both X) → P x v → ((z : Side) → P z (pick z b)) →
      (z : Side) → P z (pick z (put x v b))
  each_put P Left v b here there Left = here
  each_put P Left v b here there Right = there Right
  each_put P Right v b here there Left = there Left
  each_put P Right v b here there Right = here
