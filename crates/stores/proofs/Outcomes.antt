-- Which outcome a call has.
use Rattle.std.proofs.Common.{◌≡◌, ℕ, ◌<◌, ◌≤◌, true, false, List, length, Some, None, sym, ap, ◌∙◌}
use Rattle.std.proofs.lemmas.Bool.{cond-true, cond-false, le-leb, lt-leb}
use Rattle.refusals.specs.declared.refusal.Refusal.TheVariants.{BadTime, IdInUse, NoSuchRow, StoreFull}
use Rattle.rows.specs.Rows.{Plain}
use Rattle.rows.specs.Times.{lawful}
use Rattle.receipts.specs.Stores.{accept, refuse, adds, sets, sets_on, removes, found, holds_id, placed, end_set, without}

module _ (capacity : ℕ) (r : Plain) (m : List Plain) where
  pub adds_held : holds_id r.id m ≡ true → refuse IdInUse m ≡ adds capacity r m
  adds_held h = sym (cond-true _ _ _ h)

  pub adds_full : holds_id r.id m ≡ false → capacity ≤ length m → refuse StoreFull m ≡ adds capacity r m
  adds_full h full = sym (cond-false _ _ _ h ∙ cond-true _ _ _ (le-leb _ _ full))

  pub adds_done : holds_id r.id m ≡ false → length m < capacity → accept (placed r m) ≡ adds capacity r m
  adds_done h room = sym (cond-false _ _ _ h ∙ cond-false _ _ _ (lt-leb _ _ room))

module _ (id : ℕ) (m : List Plain) where
  pub removes_none : holds_id id m ≡ false → refuse NoSuchRow m ≡ removes id m
  removes_none h = sym (cond-false _ _ _ h)

  pub removes_done : holds_id id m ≡ true → accept (without id m) ≡ removes id m
  removes_done h = sym (cond-true _ _ _ h)

  pub sets_none : (e : ℕ) → found id m ≡ None → refuse NoSuchRow m ≡ sets id e m
  sets_none e h = sym (ap (λ o. sets_on o id e m) h)

  pub sets_bad : (e : ℕ) (x : Plain) → found id m ≡ Some x → lawful x.start e ≡ false → refuse BadTime m ≡ sets id e m
  sets_bad e x h bad = sym (ap (λ o. sets_on o id e m) h ∙ cond-false _ _ _ bad)

  pub sets_done : (e : ℕ) (x : Plain) → found id m ≡ Some x → lawful x.start e ≡ true → accept (end_set id e m) ≡ sets id e m
  sets_done e x h good = sym (ap (λ o. sets_on o id e m) h ∙ cond-true _ _ _ good)
