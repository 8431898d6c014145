-- The row that a list holds under an id, where no id comes twice.
use Rattle.std.proofs.Common.{◌≡◌, ℕ, List, [], ◌∷◌, Some, None, Option, sym, refl, ◌∙◌, inl, inr, ⊎_elim, arith}
use Rattle.std.proofs.lemmas.Bool.{cases_eq}
use Rattle.std.proofs.lemmas.Bool.Decides.{nat_tests}
use Rattle.rows.specs.Rows.{Plain}
use Rattle.receipts.specs.Lists.{In, Once, SameMembers}
use Rattle.receipts.specs.Stores.{found}

abbrev pub held : List Plain → ℕ → Option Plain
held xs j = found j xs

-- no row has the id j
abbrev pub Free : ℕ → List Plain → Type 0
Free j xs = (x : Plain) → In x xs → x.id ≡ j → ⊥

-- no id comes twice
abbrev pub Distinct : List Plain → Type 0
Distinct [] = Unit {0}
Distinct (x ∷ xs) = Free x.id xs × Distinct xs

pub free_held : (j : ℕ) (xs : List Plain) → Free j xs → held xs j ≡ None
free_held j [] free = refl
free_held j (x ∷ xs) free =
    let here = free x (inl refl) in
    let rest = free_held j xs (λ y h. free y (inr h)) in
    grind (arith, nat_tests)

pub held_free : (j : ℕ) (xs : List Plain) → held xs j ≡ None → Free j xs
held_free j [] none y h e = h
held_free j (x ∷ xs) none y (inl p) e = grind (arith, nat_tests)
held_free j (x ∷ xs) none y (inr h) e = held_free j xs (grind (arith, nat_tests)) y h e

pub in_held : (xs : List Plain) (x : Plain) → Distinct xs → In x xs → held xs x.id ≡ Some x
in_held [] x d h = absurd h
in_held (y ∷ ys) x d (inl p) = grind (arith, nat_tests)
in_held (y ∷ ys) x d (inr h) =
    let other = d.0 x h in
    let rest = in_held ys x d.1 h in
    grind (arith, nat_tests)

pub held_in : (xs : List Plain) (j : ℕ) (x : Plain) → held xs j ≡ Some x → In x xs × (x.id ≡ j)
held_in [] j x some = grind arith
held_in (y ∷ ys) j x some = ⊎_elim
    (λ e. let p : x ≡ y = grind (arith, nat_tests) in (inl p, grind arith))
    (λ n. let rest = held_in ys j x (grind (arith, nat_tests)) in (inr rest.0, rest.1))
    (cases_eq j y.id)

pub distinct_once : (xs : List Plain) → Distinct xs → Once xs
distinct_once [] d = tt
distinct_once (x ∷ xs) d = (λ h. d.0 x h refl, distinct_once xs d.1)

pub held_same : (xs ys : List Plain) → Distinct xs → Distinct ys → ((j : ℕ) → held xs j ≡ held ys j) → SameMembers xs ys
held_same xs ys d e same x = (
  λ h. (held_in ys x.id x (sym (same x.id) ∙ in_held xs x d h)).0,
  λ h. (held_in xs x.id x (same x.id ∙ in_held ys x e h)).0,
)
