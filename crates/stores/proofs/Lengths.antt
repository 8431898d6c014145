-- How many rows each call leaves.
use Rattle.std.proofs.Common.{◌≡◌, ℕ, suc, ◌+◌, Bool, true, false, cond, ◌||◌, eqb, ltb, List, [], ◌∷◌, length, refl, ap, arith}
use Rattle.std.proofs.lemmas.Bool.{cond_both, false≢true}
use Rattle.rows.specs.Rows.{Plain, with_end}
use Rattle.receipts.specs.Lists.{one}
use Rattle.receipts.specs.Stores.{holds_id, placed, end_set, without, kept, gone}

pub length_placed : (r : Plain) (m : List Plain) → length (placed r m) ≡ suc (length m)
length_placed r [] = refl
length_placed r (x ∷ m) =
    cond_both (ltb r.id x.id) (r ∷ (x ∷ m)) (x ∷ placed r m) (λ z. length z ≡ suc (suc (length m))) (λ _. refl) (λ _. ap suc (length_placed r m))

pub length_without : (id : ℕ) (m : List Plain) → holds_id id m ≡ true → suc (length (without id m)) ≡ length m
length_without id [] h = absurd (false≢true h)
length_without id (x ∷ m) h = by_test (eqb x.id id) h (length_without id m)
  where
    by_test : (b : Bool) → (b || holds_id id m) ≡ true → (holds_id id m ≡ true → suc (length (without id m)) ≡ length m)
        → suc (length (cond b m (x ∷ without id m))) ≡ suc (length m)
    by_test true h more = refl
    by_test false h more = ap suc (more h)

pub length_end_set : (id e : ℕ) (m : List Plain) → length (end_set id e m) ≡ length m
length_end_set id e [] = refl
length_end_set id e (x ∷ m) =
    cond_both (eqb x.id id) (with_end e x ∷ m) (x ∷ end_set id e m) (λ z. length z ≡ suc (length m)) (λ _. refl) (λ _. ap suc (length_end_set id e m))

pub gone_kept : (g : ℕ) (m : List Plain) → gone g m + length (kept g m) ≡ length m
gone_kept g [] = omega arith
gone_kept g (x ∷ m) = by_test (ltb x.end g) (gone_kept g m)
  where
    by_test : (b : Bool) → gone g m + length (kept g m) ≡ length m → (one b + gone g m) + length (cond b (kept g m) (x ∷ kept g m)) ≡ suc (length m)
    by_test true more = omega arith
    by_test false more = omega arith
