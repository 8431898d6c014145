-- Rows that a purge keeps, one after the other.
use Rattle.std.proofs.Common.{◌≡◌, ℕ, zero, suc, ◌+◌, ◌<◌, ◌≤◌, Bool, true, false, cond, ltb, List, [], ◌∷◌, ◌++◌, length, get_or, take, Some, Result, sym, refl, ap, ◌∙◌, subst, arith}
use Rattle.std.proofs.lemmas.List.{take_more, append-nil, length-take}
use Rattle.std.proofs.lemmas.Bool.{cond-true, cond-false, le-ltb, lt-ltb, ne_eqb, or_from}
use Rattle.std.specs.Result.{is_ok, IsOk}
use Rattle.refusals.specs.declared.refusal.Refusal.{Refusal}
use Rattle.rows.specs.Rows.{Plain}
use Rattle.receipts.specs.Stores.{Above, Rising, nth_row, holds_id, placed, kept, Outcome, accept, adds}
use Rattle.stores.specs.Told.{outcome}
use Rattle.stores.specs.Places.{place}
use Rattle.stores.proofs.Lengths.{gone_kept}
use Rattle.stores.proofs.Order.{rising_kept}
use Rattle.stores.proofs.Outcomes.{adds_done}
use Rattle.stores.proofs.Places.{place_more, nth_get_or}

above_take : (n i : ℕ) (m : List Plain) → Above n m → Above n (take i m)
above_take n zero m h = tt
above_take n (suc i) [] h = tt
above_take n (suc i) (x ∷ m) h = (h.0, above_take n i m h.1)

rising_take : (i : ℕ) (m : List Plain) → Rising m → Rising (take i m)
rising_take zero m h = tt
rising_take (suc i) [] h = tt
rising_take (suc i) (x ∷ m) h = (above_take x.id i m h.0, rising_take i m h.1)

-- a row behind all others
above_last : (n : ℕ) (m : List Plain) (r : Plain) → Above n (m ++ r ∷ []) → n < r.id
above_last n [] r h = h.0
above_last n (x ∷ m) r h = above_last n m r h.1

last_place : (m : List Plain) (r : Plain) → Rising (m ++ r ∷ []) → place r.id m ≡ length m
last_place [] r h = refl
last_place (x ∷ m) r h = place_more r.id x m (above_last x.id m r h.0) ∙ ap suc (last_place m r h.1)

last_absent : (m : List Plain) (r : Plain) → Rising (m ++ r ∷ []) → holds_id r.id m ≡ false
last_absent [] r h = refl
last_absent (x ∷ m) r h =
    or_from _ _ (ne_eqb x.id r.id (λ e. omega (arith, above_last x.id m r h.0))) (last_absent m r h.1)

last_placed : (m : List Plain) (r : Plain) → Rising (m ++ r ∷ []) → placed r m ≡ m ++ r ∷ []
last_placed [] r h = refl
last_placed (x ∷ m) r h =
    cond-false _ _ _ (le-ltb r.id x.id (omega (arith, above_last x.id m r h.0))) ∙ ap (λ z. x ∷ z) (last_placed m r h.1)

last_added : (m : List Plain) (r : Plain) → Rising (m ++ r ∷ []) → length m < 256 → accept (m ++ r ∷ []) ≡ adds 256 r m
last_added m r h room = ap accept (sym (last_placed m r h)) ∙ adds_done 256 r m (last_absent m r h) room

kept_le : (g : ℕ) (m : List Plain) → length (kept g m) ≤ length m
kept_le g m = omega (arith, gone_kept g m)

-- a row that is kept or goes
kept_push : (g : ℕ) (m : List Plain) (r : Plain) (zs : List Plain) → kept g (r ∷ []) ≡ zs → kept g (m ++ r ∷ []) ≡ kept g m ++ zs
kept_push g [] r zs h = h
kept_push g (x ∷ m) r zs h = by_test (ltb x.end g) (kept_push g m r zs h)
  where
    by_test : (b : Bool) → kept g (m ++ r ∷ []) ≡ kept g m ++ zs → cond b (kept g (m ++ r ∷ [])) (x ∷ kept g (m ++ r ∷ [])) ≡ cond b (kept g m) (x ∷ kept g m) ++ zs
    by_test true more = more
    by_test false more = ap (λ z. x ∷ z) more

module _ (g i : ℕ) (m : List Plain) (x : Plain) (within : i < length m) (read : Some x ≡ nth_row i m) where
  one_more : take (i + 1) m ≡ take i m ++ x ∷ []
  one_more =
      let there = nth_get_or i m x within in
      let is : get_or m i x ≡ x = cc in
      take_more m i x within ∙ ap (λ z. take i m ++ z ∷ []) is

  kept_more : g ≤ x.end → kept g (take (i + 1) m) ≡ kept g (take i m) ++ x ∷ []
  kept_more le = ap (kept g) one_more ∙ kept_push g (take i m) x (x ∷ []) (cond-false _ _ _ (le-ltb x.end g le))

  pub gone_more : x.end < g → kept g (take (i + 1) m) ≡ kept g (take i m)
  gone_more lt = ap (kept g) one_more ∙ kept_push g (take i m) x [] (cond-true _ _ _ (lt-ltb x.end g lt)) ∙ append-nil (kept g (take i m))

  module _ (rising : Rising m) (stays : g ≤ x.end) (front : List Plain) (is : front ≡ kept g (take i m)) where
    rising_more : Rising (front ++ x ∷ [])
    rising_more = subst Rising (kept_more stays ∙ ap (λ z. z ++ x ∷ []) (sym is)) (rising_kept g (take (i + 1) m) (rising_take (i + 1) m rising))

    pub kept_place : length front ≡ place x.id front
    kept_place = sym (last_place front x rising_more)

    module _ (room : length m ≤ 256) (a : Result (Unit {0}) Refusal) (new : List Plain) (told : outcome a new ≡ adds 256 x front) where
      added : outcome a new ≡ accept (front ++ x ∷ [])
      added = told ∙ sym (last_added front x rising_more (omega (arith, ap length is, kept_le g (take i m), length-take i m)))

      pub added_ok : IsOk a
      added_ok = ap (λ (o : Outcome (List Plain)). is_ok o.answer) added

      pub kept_added : new ≡ kept g (take (i + 1) m)
      kept_added = ap (λ (o : Outcome (List Plain)). o.after) added ∙ ap (λ z. z ++ x ∷ []) is ∙ sym (kept_more stays)

-- every row is kept
pub kept_all : (m : List Plain) → kept 0 m ≡ m
kept_all [] = refl
kept_all (x ∷ m) = cond-false _ _ _ (le-ltb x.end 0 (omega arith)) ∙ ap (λ z. x ∷ z) (kept_all m)
