-- Parts of a file that are read one after another. Assumes nothing.
use Rattle.std.proofs.Common.{◌≡◌, ℕ, List, ◌∷◌, ◌++◌, Ok, Err, sym, refl, ap, ◌∙◌, arith}
use Rattle.std.proofs.lemmas.List.{append_assoc, length-append}
use Rattle.files.specs.declared.fields.EndField.{EndField}
use Rattle.files.specs.declared.fields.Fields.TheVariants.{Insert, Retraction, Cti}
use Rattle.refusals.specs.Parts.{Part}
use Rattle.files.specs.Orders.{bind, head_by, pair_by, row_from, insert_by, retraction_by, cti_by}
use Rattle.files.specs.Reading.{Ends}

pub ok_parts : {A : Type 0} (a b : A) (xs bs : List ℕ) → ◌≡◌ {A = Part A} (Ok (a, xs)) (Ok (b, bs)) → (a ≡ b) × (xs ≡ bs)
ok_parts {A} a b xs bs e = let f : ◌≡◌ {A = A × List ℕ} (a, xs) (b, bs) = cc in (ap (λ z. z.0) f, ap (λ z. z.1) f)

-- where two parts are read, the first is, and then the second
abbrev pub Bound : {A B : Type 0} → Part A → (A → List ℕ → Part B) → B → List ℕ → Type 0
Bound {A} r go b rest = (a : A) × (mid : List ℕ) × (r ≡ Ok (a, mid)) × (go a mid ≡ Ok (b, rest))

pub bind_parts : {A B : Type 0} (r : Part A) (go : A → List ℕ → Part B) (b : B) (rest : List ℕ) → bind r go ≡ Ok (b, rest) → Bound r go b rest
bind_parts (Ok p) go b rest e = (p.0, p.1, refl, e)
bind_parts (Err why) go b rest e = absurd (let z : ◌≡◌ {A = ℕ} 0 1 = cc in omega arith)

pub ends_more : (a b c : List ℕ) → Ends b a → Ends c b → Ends c a
ends_more a b c s t =
    let some = s.1 in (
      s.0 ++ t.0,
      simp length-append (omega arith),
      s.2 ∙ ap (λ zs. s.0 ++ zs) t.2 ∙ sym (append_assoc s.0 t.0 c),
    )

pub ends_cons : (b : ℕ) (bs rest : List ℕ) → Ends rest bs → Ends rest (b ∷ bs)
ends_cons b bs rest s = (b ∷ s.0, omega arith, ap (λ zs. b ∷ zs) s.2)

-- a part that is read takes at least one byte
abbrev pub Shortens : {A : Type 0} → (List ℕ → Part A) → Type 0
Shortens {A} read = (bs rest : List ℕ) (a : A) → read bs ≡ Ok (a, rest) → Ends rest bs

-- and so do two, and one that is given another form
pub bind_ends : {A B : Type 0} (read : List ℕ → Part A) (go : A → List ℕ → Part B) → Shortens read → ((a : A) → Shortens (go a)) → Shortens (λ bs. bind (read bs) go)
bind_ends read go s t bs rest b e =
    let p = bind_parts (read bs) go b rest e in
    ends_more bs p.1 rest (s bs p.1 p.0 p.2) (t p.0 p.1 rest b p.3)

pub made_ends : {A B : Type 0} (read : List ℕ → Part A) (make : A → B) → Shortens read → Shortens (λ bs. bind (read bs) (λ a xs. Ok (make a, xs)))
made_ends read make s bs rest b e =
    let p = bind_parts (read bs) (λ a xs. Ok (make a, xs)) b rest e in
    let q = ok_parts (make p.0) b p.1 rest p.3 in
    s bs rest p.0 (p.2 ∙ ap (λ (zs : List ℕ). Ok (p.0, zs)) q.1)

module _ (number : List ℕ → Part ℕ) (end : List ℕ → Part EndField) (s : Shortens number) (t : Shortens end) where
  pair_ends : Shortens (pair_by number)
  pair_ends = bind_ends number (λ key xs. bind (number xs) (λ value ys. Ok ((key, value), ys))) s (λ key. made_ends number (λ value. (key, value)) s)

  head_ends : Shortens (head_by number end)
  head_ends =
      bind_ends number (λ id xs. bind (number xs) (λ start ys. bind (end ys) (λ e zs. Ok ((id, start, e), zs)))) s
      (λ id. bind_ends number (λ start ys. bind (end ys) (λ e zs. Ok ((id, start, e), zs))) s (λ start. made_ends end (λ e. (id, start, e)) t))

  pub insert_ends : Shortens (insert_by number end)
  insert_ends =
      bind_ends (head_by number end) (λ h xs. bind (pair_by number xs) (λ p ys. Ok (Insert (row_from h p), ys))) head_ends
      (λ h. made_ends (pair_by number) (λ p. Insert (row_from h p)) pair_ends)

  pub retraction_ends : Shortens (retraction_by number end)
  retraction_ends =
      bind_ends (head_by number end) (λ h xs. bind (end xs) (λ e ys. bind (pair_by number ys) (λ p zs. Ok (Retraction (row_from h p) e, zs)))) head_ends
      (λ h. bind_ends end (λ e ys. bind (pair_by number ys) (λ p zs. Ok (Retraction (row_from h p) e, zs))) t
      (λ e. made_ends (pair_by number) (λ p. Retraction (row_from h p) e) pair_ends))

  pub cti_ends : Shortens (cti_by number)
  cti_ends = made_ends number (λ t. Cti t) s
