-- One thing for each side.
--     Both X                      an X for the left side and one for the right
--     pick s b                    the one of the side s
--     put s x b                   b with x on the side s
--     twice x                     x on both sides
--     mapped f b                  f of the one of each side
use Rattle.refusals.specs.declared.fault.Side.{Side}
use Rattle.refusals.specs.declared.fault.Side.TheVariants.{Left, Right}

pub record Both (X : Type 0) : Type 0 where
  pub left : X
  pub right : X

abbrev pub pick : {X : Type 0} → Side → Both X → X
pick Left b = b.left
pick Right b = b.right

abbrev pub put : {X : Type 0} → Side → X → Both X → Both X
put Left x b = record { left = x; right = b.right }
put Right x b = record { left = b.left; right = x }

abbrev pub twice : {X : Type 0} → X → Both X
twice x = record { left = x; right = x }

abbrev pub mapped : {X Y : Type 0} → (X → Y) → Both X → Both Y
mapped f b = record { left = f b.left; right = f b.right }
