-- The id order is kept.
use Rattle.std.proofs.Common.{◌≡◌, ℕ, ◌<◌, ◌≤◌, false, eqb, ltb, List, [], ◌∷◌, arith}
use Rattle.std.proofs.lemmas.Bool.{cond_both, ltb-true, ltb-false, eqb-false, or_parts}
use Rattle.std.specs.Coded.{×_prop, Unit-prop, le_prop}
use Rattle.rows.specs.Rows.{Plain, with_end}
use Rattle.receipts.specs.Stores.{Above, Rising, holds_id, placed, end_set, without, kept}

-- that rows rise has one proof at most
Above-prop : (n : ℕ) (m : List Plain) → IsProp (Above n m)
Above-prop n [] = Unit-prop
Above-prop n (x ∷ m) = ×_prop le_prop (Above-prop n m)

pub Rising-prop : (m : List Plain) → IsProp (Rising m)
Rising-prop [] = Unit-prop
Rising-prop (x ∷ m) = ×_prop (Above-prop x.id m) (Rising-prop m)

pub above_lower : (n k : ℕ) (m : List Plain) → k ≤ n → Above n m → Above k m
above_lower n k [] le h = tt
above_lower n k (x ∷ m) le h = (omega (arith, h.0), above_lower n k m le h.1)

pub above_placed : (n : ℕ) (r : Plain) (m : List Plain) → n < r.id → Above n m → Above n (placed r m)
above_placed n r [] lt h = (lt, tt)
above_placed n r (x ∷ m) lt h =
    cond_both (ltb r.id x.id) (r ∷ (x ∷ m)) (x ∷ placed r m) (Above n) (λ _. (lt, h)) (λ _. (h.0, above_placed n r m lt h.1))

pub rising_placed : (r : Plain) (m : List Plain) → Rising m → holds_id r.id m ≡ false → Rising (placed r m)
rising_placed r [] h absent = (tt, tt)
rising_placed r (x ∷ m) h absent =
    let none = or_parts (eqb x.id r.id) (holds_id r.id m) absent in
    let other = eqb-false x.id r.id none.0 in
    cond_both (ltb r.id x.id) (r ∷ (x ∷ m)) (x ∷ placed r m) Rising
    (λ e. let lt = ltb-true r.id x.id e in ((lt, above_lower x.id r.id m (omega arith) h.0), h))
    (λ e. let le = ltb-false r.id x.id e in (above_placed x.id r m (omega arith) h.0, rising_placed r m h.1 none.1))

pub above_without : (n id : ℕ) (m : List Plain) → Above n m → Above n (without id m)
above_without n id [] h = tt
above_without n id (x ∷ m) h =
    cond_both (eqb x.id id) m (x ∷ without id m) (Above n) (λ _. h.1) (λ _. (h.0, above_without n id m h.1))

pub rising_without : (id : ℕ) (m : List Plain) → Rising m → Rising (without id m)
rising_without id [] h = tt
rising_without id (x ∷ m) h =
    cond_both (eqb x.id id) m (x ∷ without id m) Rising (λ _. h.1) (λ _. (above_without x.id id m h.0, rising_without id m h.1))

pub above_end_set : (n id e : ℕ) (m : List Plain) → Above n m → Above n (end_set id e m)
above_end_set n id e [] h = tt
above_end_set n id e (x ∷ m) h =
    cond_both (eqb x.id id) (with_end e x ∷ m) (x ∷ end_set id e m) (Above n) (λ _. h) (λ _. (h.0, above_end_set n id e m h.1))

pub rising_end_set : (id e : ℕ) (m : List Plain) → Rising m → Rising (end_set id e m)
rising_end_set id e [] h = tt
rising_end_set id e (x ∷ m) h =
    cond_both (eqb x.id id) (with_end e x ∷ m) (x ∷ end_set id e m) Rising (λ _. h) (λ _. (above_end_set x.id id e m h.0, rising_end_set id e m h.1))

pub above_kept : (n g : ℕ) (m : List Plain) → Above n m → Above n (kept g m)
above_kept n g [] h = tt
above_kept n g (x ∷ m) h =
    let more = above_kept n g m h.1 in
    cond_both (ltb x.end g) (kept g m) (x ∷ kept g m) (Above n) (λ _. more) (λ _. (h.0, more))

pub rising_kept : (g : ℕ) (m : List Plain) → Rising m → Rising (kept g m)
rising_kept g [] h = tt
rising_kept g (x ∷ m) h =
    let more = rising_kept g m h.1 in
    cond_both (ltb x.end g) (kept g m) (x ∷ kept g m) Rising (λ _. more) (λ _. (above_kept x.id g m h.0, more))
