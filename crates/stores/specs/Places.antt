-- The place of an id among things in rising id order.
--     below number id xs          how many xs stand in front of the first whose number is not below id
--     id_of r                     the id of the row r
--     place id rows               the place of an id in rows, whether or not a row has it
--     has_id id o                 the row o is there and has the id
use Rattle.std.specs.Prelude.{ℕ, suc, Bool, false, cond, List, [], ◌∷◌, Some, None, Option, ◌==◌, nat_lt}
use Rattle.rows.specs.Rows.{Plain}

abbrev pub below : {X : Type 0} → (X → ℕ) → ℕ → List X → ℕ
below number id [] = 0
below number id (x ∷ xs) = cond (nat_lt (number x) id) (suc (below number id xs)) 0

abbrev pub id_of : Plain → ℕ
id_of r = r.id

abbrev pub place : ℕ → List Plain → ℕ
place id rows = below id_of id rows

abbrev pub has_id : ℕ → Option Plain → Bool
has_id id None = false
has_id id (Some x) = x.id == id
