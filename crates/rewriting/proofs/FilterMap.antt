-- Lists made row by row, each row giving one with its id or none: what they hold under an id.
use Rattle.std.proofs.Common.{◌≡◌, ℕ, List, [], ◌∷◌, Some, None, Option, sym, refl, ap, ◌∙◌, inl, inr, arith}
use Rattle.std.proofs.lemmas.Bool.Decides.{nat_tests}
use Rattle.std.specs.List.{cons_option, filter_map}
use Rattle.std.specs.Option.{option_and_then}
use Rattle.rows.specs.Rows.{Plain}
use Rattle.receipts.specs.Lists.{In, SameMembers}
use Rattle.rewriting.proofs.Held.{held, Free, Distinct, free_held}

module _ (g : Plain → Option Plain) where
  -- a row of xs that gives y
  abbrev Origin : Plain → List Plain → Type 0
  Origin y xs = (x : Plain) × In x xs × (g x ≡ Some y)

  origin : (xs : List Plain) (y : Plain) → In y (filter_map g xs) → Origin y xs
  origin [] y h = absurd h
  origin (x ∷ xs) y h = go (λ k. let o = origin xs y k in (o.0, inr o.1, o.2)) (g x) refl h
    where
      go : (In y (filter_map g xs) → Origin y (x ∷ xs)) → (o : Option Plain) → g x ≡ o → In y (cons_option o (filter_map g xs)) → Origin y (x ∷ xs)
      go rest None p k = rest k
      go rest (Some z) p (inl e) = (x, inl refl, p ∙ ap Some (sym e))
      go rest (Some z) p (inr k) = rest k

  given : (xs : List Plain) (x y : Plain) → In x xs → g x ≡ Some y → In y (filter_map g xs)
  given [] x y h p = absurd h
  given (z ∷ xs) x y (inl e) p = grind arith
  given (z ∷ xs) x y (inr h) p = let rest = given xs x y h p in grind arith

  pub filter_map_same : (xs ys : List Plain) → SameMembers xs ys → SameMembers (filter_map g xs) (filter_map g ys)
  filter_map_same xs ys same y = (
    λ h. let o = origin xs y h in given ys o.0 y ((same o.0).0 o.1) o.2,
    λ h. let o = origin ys y h in given xs o.0 y ((same o.0).1 o.1) o.2,
  )

  module _ (keeps-id : (x y : Plain) → g x ≡ Some y → y.id ≡ x.id) where
    filter_map_free : (j : ℕ) (xs : List Plain) → Free j xs → Free j (filter_map g xs)
    filter_map_free j xs free y h e = let o = origin xs y h in free o.0 o.1 (sym (keeps-id o.0 y o.2) ∙ e)

    pub filter_map_distinct : (xs : List Plain) → Distinct xs → Distinct (filter_map g xs)
    filter_map_distinct [] d = tt
    filter_map_distinct (x ∷ xs) d = go (g x) refl (filter_map_distinct xs d.1)
      where
        go : (o : Option Plain) → g x ≡ o → Distinct (filter_map g xs) → Distinct (cons_option o (filter_map g xs))
        go None p rest = rest
        go (Some y) p rest = (filter_map_free y.id xs (λ z h e. d.0 z h (e ∙ keeps-id x y p)), rest)

    pub held_filter_map : (xs : List Plain) (j : ℕ) → Distinct xs → held (filter_map g xs) j ≡ option_and_then g (held xs j)
    held_filter_map [] j d = refl
    held_filter_map (x ∷ xs) j d =
        let rest = held_filter_map xs j d.1 in
        let free = free_held x.id (filter_map g xs) (filter_map_free x.id xs d.0) in
        let same_id = keeps-id x in
        grind (arith, nat_tests)
