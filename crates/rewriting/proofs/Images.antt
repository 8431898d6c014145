-- The images of a history's rows, id by id.
use Rattle.std.proofs.Common.{◌≡◌, ℕ, List, Some, Option, arith}
use Rattle.std.specs.Option.{option_and_then}
use Rattle.rows.specs.Rows.{Plain}
use Rattle.receipts.specs.Lists.{SameMembers}
use Rattle.rewriting.specs.Rules.{Rule}
use Rattle.rewriting.specs.Layers.{row_image, images}
use Rattle.rewriting.proofs.Held.{held, Distinct}
use Rattle.rewriting.proofs.FilterMap.{filter_map_same, filter_map_distinct, held_filter_map}

abbrev pub image_of : Rule → Option Plain → Option Plain
image_of f o = option_and_then (row_image f) o

module _ (f : Rule) where
  row_image_id : (r y : Plain) → row_image f r ≡ Some y → y.id ≡ r.id
  row_image_id r y some = grind arith

  pub images_distinct : (xs : List Plain) → Distinct xs → Distinct (images f xs)
  images_distinct = filter_map_distinct (row_image f) row_image_id

  pub held_images : (xs : List Plain) (j : ℕ) → Distinct xs → held (images f xs) j ≡ image_of f (held xs j)
  held_images = held_filter_map (row_image f) row_image_id

  pub images_same : (xs ys : List Plain) → SameMembers xs ys → SameMembers (images f xs) (images f ys)
  images_same = filter_map_same (row_image f)
