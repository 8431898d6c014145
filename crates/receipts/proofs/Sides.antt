-- Sides: what is true on each side after something is put on one, or each is mapped.
use Rattle.std.proofs.Common.{◌≡◌, refl}
use Rattle.refusals.specs.declared.fault.Side.{Side}
use Rattle.refusals.specs.declared.fault.Side.TheVariants.{Left, Right}
use Rattle.receipts.specs.Sides.{Both, pick, put, mapped}

module _ {X Y : Type 0} where
  -- what holds of the new things on one side, and of the old ones on both, holds on both sides after
  pub put_keeps : (P : Side → X → Y → Type 0) (x : Side) (u : X) (v : Y) (a : Both X) (b : Both Y) →
      P x u v → ((y : Side) → P y (pick y a) (pick y b)) → (y : Side) → P y (pick y (put x u a)) (pick y (put x v b))
  put_keeps P Left u v a b new old Left = new
  put_keeps P Left u v a b new old Right = old Right
  put_keeps P Right u v a b new old Left = old Left
  put_keeps P Right u v a b new old Right = new

  pub mapped_all : (P : Side → Y → Type 0) (f : X → Y) (b : Both X) → ((x : Side) → P x (f (pick x b))) → (x : Side) → P x (pick x (mapped f b))
  mapped_all P f b h Left = h Left
  mapped_all P f b h Right = h Right

  pub mapped_put : (f : X → Y) (x : Side) (u : X) (b : Both X) → f u ≡ f (pick x b) → mapped f (put x u b) ≡ mapped f b
  mapped_put f Left u b e = λ i. record { left = e i; right = f b.right }
  mapped_put f Right u b e = λ i. record { left = f b.left; right = e i }

-- the same of two things for each side
pub mapped_pairs : {X Y Z : Type 0} (P : Z → Z → Type 0) (f : X → Z) (g : Y → Z) (a : Both X) (b : Both Y) →
    ((x : Side) → P (f (pick x a)) (g (pick x b))) → (x : Side) → P (pick x (mapped f a)) (pick x (mapped g b))
mapped_pairs P f g a b h Left = h Left
mapped_pairs P f g a b h Right = h Right

pub put_same : {X : Type 0} (x : Side) (b : Both X) → put x (pick x b) b ≡ b
put_same Left b = refl
put_same Right b = refl
