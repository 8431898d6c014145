-- Lists: their members, sums over them, lists in order, and lists gathered from lists.
--     Out x ys                    what is left of ys with its member x taken out
--     Ordered B xs                each member comes, by B, before all that stand behind it
use Rattle.std.proofs.Common.{◌≡◌, ℕ, ◌+◌, ◌⊎◌, List, [], ◌∷◌, ◌++◌, sym, refl, ap, ◌∙◌, subst, inl, inr, ⊎_elim, append_assoc, append-nil, arith}
use Rattle.std.specs.List.Sorted.{IsPermutation}
use Rattle.std.proofs.lemmas.List.Sorted.{IsPermutation-refl, IsPermutation-cons, IsPermutation-trans, IsPermutation-swap}
use Rattle.receipts.specs.Lists.{In, Once, SameMembers, total, each, gathered}

module _ {X : Type 0} where
  pub in_first : (x : X) (xs ys : List X) → In x xs → In x (xs ++ ys)
  in_first x [] ys h = absurd h
  in_first x (y ∷ xs) ys (inl e) = inl e
  in_first x (y ∷ xs) ys (inr h) = inr (in_first x xs ys h)

  pub in_second : (x : X) (xs ys : List X) → In x ys → In x (xs ++ ys)
  in_second x [] ys h = h
  in_second x (y ∷ xs) ys h = inr (in_second x xs ys h)

  pub in_either : (x : X) (xs ys : List X) → In x (xs ++ ys) → In x xs ⊎ In x ys
  in_either x [] ys h = inr h
  in_either x (y ∷ xs) ys (inl e) = inl (inl e)
  in_either x (y ∷ xs) ys (inr h) = ⊎_elim (λ a. inl (inr a)) (λ b. inr b) (in_either x xs ys h)

  pub once_append : (xs ys : List X) → Once xs → Once ys → ((x : X) → In x xs → In x ys → ⊥) → Once (xs ++ ys)
  once_append [] ys a b h = b
  once_append (x ∷ xs) ys a b h =
      (λ k. ⊎_elim (λ m. a.0 m) (λ m. h x (inl refl) m) (in_either x xs ys k), once_append xs ys a.1 b (λ z m n. h z (inr m) n))

  pub total_append : (f : X → ℕ) (xs ys : List X) → total f (xs ++ ys) ≡ total f xs + total f ys
  total_append f [] ys = omega arith
  total_append f (x ∷ xs) ys = omega (arith, total_append f xs ys)

  pub total_ext : (f g : X → ℕ) (xs : List X) → ((x : X) → f x ≡ g x) → total f xs ≡ total g xs
  total_ext f g [] h = refl
  total_ext f g (x ∷ xs) h = omega (arith, h x, total_ext f g xs h)

  pub total_zero : (f : X → ℕ) (xs : List X) → ((x : X) → f x ≡ 0) → total f xs ≡ 0
  total_zero f [] h = refl
  total_zero f (x ∷ xs) h = omega (arith, h x, total_zero f xs h)

  record Out (x : X) (ys : List X) : Type 0 where
    rest : List X
    sum : (f : X → ℕ) → total f ys ≡ f x + total f rest
    front : IsPermutation ys (x ∷ rest)
    once : Once rest
    back : (y : X) → In y rest → In y ys × (y ≡ x → ⊥)
    there : (y : X) → In y ys → (y ≡ x → ⊥) → In y rest

  take_out : (x : X) (ys : List X) → Once ys → In x ys → Out x ys
  take_out x [] o h = absurd h
  take_out x (y ∷ ys) o (inl e) = record {
    rest = ys;
    sum = λ f. ap (λ z. f z + total f ys) (sym e);
    front = subst (λ z. IsPermutation (y ∷ ys) (z ∷ ys)) (sym e) (IsPermutation-refl (y ∷ ys));
    once = o.1;
    back = λ z h. (inr h, λ p. o.0 (subst (λ w. In w ys) (p ∙ e) h));
    there = λ z h n. ⊎_elim (λ p. absurd (n (p ∙ sym e))) (λ k. k) h;
  }
  take_out x (y ∷ ys) o (inr h) = let w : Out x ys = take_out x ys o.1 h in record {
    rest = y ∷ w.rest;
    sum = λ f. omega (arith, w.sum f);
    front = IsPermutation-trans (y ∷ ys) (y ∷ x ∷ w.rest) (x ∷ y ∷ w.rest) (IsPermutation-cons y ys (x ∷ w.rest) w.front)
        (IsPermutation-swap (y ∷ x ∷ w.rest) (x ∷ y ∷ w.rest) 0 1 (omega arith) (omega arith) refl);
    once = (λ k. o.0 (w.back y k).0, w.once);
    back = λ z k. ⊎_elim {C = In z (y ∷ ys) × (z ≡ x → ⊥)} (λ p. (inl p, λ q. o.0 (subst (λ v. In v ys) (sym q ∙ p) h)))
        (λ m. (inr (w.back z m).0, (w.back z m).1)) k;
    there = λ z k n. ⊎_elim {C = In z (y ∷ w.rest)} (λ p. inl p) (λ m. inr (w.there z m n)) k;
  }

  rest_same : (x : X) (xs ys : List X) → Once (x ∷ xs) → SameMembers (x ∷ xs) ys → (w : Out x ys) → SameMembers xs w.rest
  rest_same x xs ys o m w z = (
    λ h. w.there z ((m z).0 (inr h)) (λ e. o.0 (subst (λ v. In v xs) e h)),
    λ h. ⊎_elim (λ e. absurd ((w.back z h).1 e)) (λ k. k) ((m z).1 (w.back z h).0),
  )

  pub total_same : (f : X → ℕ) (xs ys : List X) → Once xs → Once ys → SameMembers xs ys → total f xs ≡ total f ys
  total_same f [] [] o p m = refl
  total_same f [] (y ∷ ys) o p m = absurd ((m y).1 (inl refl))
  total_same f (x ∷ xs) ys o p m =
      let w : Out x ys = take_out x ys p ((m x).0 (inl refl)) in
      omega (arith, total_same f xs w.rest o.1 w.once (rest_same x xs ys o m w), w.sum f)

  pub shuffled_same : (xs ys : List X) → Once xs → Once ys → SameMembers xs ys → IsPermutation ys xs
  shuffled_same [] [] o p m = IsPermutation-refl []
  shuffled_same [] (y ∷ ys) o p m = absurd ((m y).1 (inl refl))
  shuffled_same (x ∷ xs) ys o p m =
      let w : Out x ys = take_out x ys p ((m x).0 (inl refl)) in
      IsPermutation-trans ys (x ∷ w.rest) (x ∷ xs) w.front
      (IsPermutation-cons x w.rest xs (shuffled_same xs w.rest o.1 w.once (rest_same x xs ys o m w)))

  abbrev pub Ordered : (X → X → Type 0) → List X → Type 0
  Ordered B [] = Unit {0}
  Ordered B (x ∷ xs) = ((y : X) → In y xs → B x y) × Ordered B xs

  pub ordered_append : (B : X → X → Type 0) (xs ys : List X) → Ordered B xs → Ordered B ys → ((x y : X) → In x xs → In y ys → B x y) → Ordered B (xs ++ ys)
  ordered_append B [] ys a b h = b
  ordered_append B (x ∷ xs) ys a b h =
      (λ z k. ⊎_elim (λ m. a.0 z m) (λ m. h x z (inl refl) m) (in_either z xs ys k), ordered_append B xs ys a.1 b (λ v w m n. h v w (inr m) n))

  -- two members of which neither comes before the other are one
  pub ordered_one : (B : X → X → Type 0) (xs : List X) (x y : X) → Ordered B xs → In x xs → In y xs → (B x y → ⊥) → (B y x → ⊥) → x ≡ y
  ordered_one B [] x y a h k n m = absurd h
  ordered_one B (z ∷ zs) x y a (inl p) (inl q) n m = p ∙ sym q
  ordered_one B (z ∷ zs) x y a (inl p) (inr k) n m = absurd (n (subst (λ v. B v y) (sym p) (a.0 y k)))
  ordered_one B (z ∷ zs) x y a (inr h) (inl q) n m = absurd (m (subst (λ v. B v x) (sym q) (a.0 x h)))
  ordered_one B (z ∷ zs) x y a (inr h) (inr k) n m = ordered_one B zs x y a.1 h k n m

  pub ordered_once : (B : X → X → Type 0) → ((x : X) → B x x → ⊥) → (xs : List X) → Ordered B xs → Once xs
  ordered_once B irr [] h = tt
  ordered_once B irr (x ∷ xs) h = (λ k. irr x (h.0 x k), ordered_once B irr xs h.1)

  -- two lists in one order that have the same members are equal
  pub ordered_same : (B : X → X → Type 0) → ((x : X) → B x x → ⊥) → ((x y : X) → B x y → B y x → ⊥) →
      (xs ys : List X) → Ordered B xs → Ordered B ys → SameMembers xs ys → xs ≡ ys
  ordered_same B irr asym [] [] a b m = refl
  ordered_same B irr asym [] (y ∷ ys) a b m = absurd ((m y).1 (inl refl))
  ordered_same B irr asym (x ∷ xs) [] a b m = absurd ((m x).0 (inl refl))
  ordered_same B irr asym (x ∷ xs) (y ∷ ys) a b m =
      let e : x ≡ y = ⊎_elim (λ p. p) (λ h. ⊎_elim (λ p. sym p) (λ k. absurd (asym x y (a.0 y k) (b.0 x h))) ((m y).1 (inl refl))) ((m x).0 (inl refl)) in
      let tails : SameMembers xs ys = λ z. (
        λ h. ⊎_elim (λ p. absurd (irr x (subst (λ v. B x v) (p ∙ sym e) (a.0 z h)))) (λ k. k) ((m z).0 (inr h)),
        λ h. ⊎_elim (λ p. absurd (irr y (subst (λ v. B y v) (p ∙ e) (b.0 z h)))) (λ k. k) ((m z).1 (inr h)),
      ) in
      λ i. e i ∷ ordered_same B irr asym xs ys a.1 b.1 tails i

module _ {X Y : Type 0} where
  pub each_append : (f : X → Y) (xs ys : List X) → each f (xs ++ ys) ≡ each f xs ++ each f ys
  each_append f [] ys = refl
  each_append f (x ∷ xs) ys = ap (λ zs. f x ∷ zs) (each_append f xs ys)

  -- what one more member gathers
  pub gathered_more : (f : X → List Y) (xs : List X) (x : X) → gathered f (xs ++ (x ∷ [])) ≡ gathered f xs ++ f x
  gathered_more f [] x = append-nil (f x)
  gathered_more f (y ∷ xs) x = ap (λ zs. f y ++ zs) (gathered_more f xs x) ∙ sym (append_assoc (f y) (gathered f xs) (f x))

  pub gathered_in : (f : X → List Y) (xs : List X) (y : Y) → In y (gathered f xs) → (x : X) × In x xs × In y (f x)
  gathered_in f [] y h = absurd h
  gathered_in f (x ∷ xs) y h = ⊎_elim {C = (z : X) × In z (x ∷ xs) × In y (f z)}
      (λ k. (x, inl refl, k))
      (λ k. let w = gathered_in f xs y k in (w.0, inr w.1, w.2))
      (in_either y (f x) (gathered f xs) h)

  pub gathered_has : (f : X → List Y) (xs : List X) (x : X) (y : Y) → In x xs → In y (f x) → In y (gathered f xs)
  gathered_has f [] x y h k = absurd h
  gathered_has f (z ∷ xs) x y (inl p) k = in_first y (f z) (gathered f xs) (subst (λ v. In y (f v)) p k)
  gathered_has f (z ∷ xs) x y (inr h) k = in_second y (f z) (gathered f xs) (gathered_has f xs x y h k)

  pub gathered_ordered : (A : X → X → Type 0) (B : Y → Y → Type 0) (f : X → List Y) (xs : List X) → Ordered A xs → ((x : X) → Ordered B (f x)) →
      ((x z : X) (u v : Y) → A x z → In u (f x) → In v (f z) → B u v) → Ordered B (gathered f xs)
  gathered_ordered A B f [] a b h = tt
  gathered_ordered A B f (x ∷ xs) a b h =
      ordered_append B (f x) (gathered f xs) (b x) (gathered_ordered A B f xs a.1 b h)
      (λ u v i j. let w = gathered_in f xs v j in h x w.0 u v (a.0 w.0 w.1) i w.2)

  -- no two members gather the same
  pub gathered_once : (f : X → List Y) (xs : List X) → Once xs → ((x : X) → Once (f x)) →
      ((x z : X) (u : Y) → In x xs → In z xs → In u (f x) → In u (f z) → x ≡ z) → Once (gathered f xs)
  gathered_once f [] o p h = tt
  gathered_once f (x ∷ xs) o p h =
      once_append (f x) (gathered f xs) (p x) (gathered_once f xs o.1 p (λ v w u i j. h v w u (inr i) (inr j)))
      (λ u i j. let w = gathered_in f xs u j in o.0 (subst (λ v. In v xs) (sym (h x w.0 u (inl refl) (inr w.1) i w.2)) w.1))
