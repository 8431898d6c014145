-- Lists that lie in values.
--     listed l                    the items of the list l
--     Computes p R                what R answers of an item is what p computes
use Rattle.std.specs.Prelude.{◌≡◌, ℕ, Bool, List, take}
use Rattle.lists.specs.declared.list.ArrayList.{ArrayList}

abbrev pub listed : {T : Type 0} {CAP : ℕ} → ArrayList T CAP → List T
listed l = take l.count l.items

abbrev pub Computes : {T : Type 0} → (T → Bool) → (T → Bool → Type 0) → Type 0
Computes {T = T} p R = (x : T) (b : Bool) → R x b → b ≡ p x
