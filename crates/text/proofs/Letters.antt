-- What the first byte of a line leads to, and how bytes are cut one at a time. Assumes nothing.
use Rattle.std.proofs.Common.{◌≡◌, ◌≢◌, ℕ, ◌+◌, ◌<◌, ◌≤◌, true, false, List, [], ◌∷◌, ◌++◌, length, take, drop, Ok, Err, slice_index, eqb, sym, ap, ◌∙◌}
use Rattle.std.proofs.lemmas.Bool.{ne_eqb, eq-eqb, cond-true, cond-false, or_left, or_right}
use Rattle.std.proofs.lemmas.List.{at_drop_more, at_drop_all, drop_more, drop_all, take_more, append_assoc, append-nil}
use Rattle.refusals.specs.declared.refusal.Refusal.TheVariants.{BadByte}
use Rattle.files.specs.Orders.{insert_by, retraction_by, cti_by}
use Rattle.text.specs.Text.{number_read, end_read, closed, text_read}
use Rattle.text.specs.Skipping.{skip_byte, skip_insert, skip_retraction, skip_cti, skip_time, skip_line}
use Rattle.text.specs.Lines.{parts, front, back, field_at, past, tail, insert_cut, retraction_cut, cti, line_cut}

module _ (b : ℕ) (bs rest : List ℕ) (first : bs ≡ b ∷ rest) where
  pub insert_skip : b ≡ 73 → skip_line bs ≡ skip_insert rest
  insert_skip e = ap skip_line (first ∙ ap (λ x. x ∷ rest) e)

  pub retraction_skip : b ≡ 82 → skip_line bs ≡ skip_retraction rest
  retraction_skip e = ap skip_line (first ∙ ap (λ x. x ∷ rest) e)

  pub cti_skip : b ≡ 67 → skip_line bs ≡ skip_cti rest
  cti_skip e = ap skip_line (first ∙ ap (λ x. x ∷ rest) e)

  pub insert_line : b ≡ 73 → line_cut bs ≡ insert_cut rest
  insert_line e = ap line_cut (first ∙ ap (λ x. x ∷ rest) e)

  pub retraction_line : b ≡ 82 → line_cut bs ≡ retraction_cut rest
  retraction_line e = ap line_cut (first ∙ ap (λ x. x ∷ rest) e)

  pub cti_line : b ≡ 67 → line_cut bs ≡ (cti (field_at rest), tail (past rest))
  cti_line e = ap line_cut (first ∙ ap (λ x. x ∷ rest) e)

  pub insert_read : b ≡ 73 → text_read bs ≡ closed (insert_by number_read end_read rest)
  insert_read e = ap text_read (first ∙ ap (λ x. x ∷ rest) e)

  pub retraction_read : b ≡ 82 → text_read bs ≡ closed (retraction_by number_read end_read rest)
  retraction_read e = ap text_read (first ∙ ap (λ x. x ∷ rest) e)

  pub cti_read : b ≡ 67 → text_read bs ≡ closed (cti_by number_read rest)
  cti_read e = ap text_read (first ∙ ap (λ x. x ∷ rest) e)

  pub no_read : (b ≢ 73) → (b ≢ 82) → (b ≢ 67) → text_read bs ≡ Err BadByte
  no_read p q r = ap text_read first ∙ cond-false _ _ _ (ne_eqb b 73 p) ∙ cond-false _ _ _ (ne_eqb b 82 q) ∙ cond-false _ _ _ (ne_eqb b 67 r)

  pub byte_there : (x : ℕ) → b ≡ x → skip_byte x bs ≡ Ok rest
  byte_there x e = ap (skip_byte x) first ∙ cond-true _ _ _ (eq-eqb b x e)

  pub star_there : b ≡ 42 → skip_time bs ≡ Ok rest
  star_there e = ap skip_time (first ∙ ap (λ x. x ∷ rest) e)

pub parts_space : (b : ℕ) → b ≡ 32 → parts b ≡ true
parts_space b e = or_left (eqb b 32) (eqb b 10) (eq-eqb b 32 e)

pub parts_feed : (b : ℕ) → b ≡ 10 → parts b ≡ true
parts_feed b e = or_right (eqb b 32) (eqb b 10) (eq-eqb b 10 e)

-- the cut of xs is looked for from the place i on
module _ (xs : List ℕ) (i : ℕ) (f : front xs ≡ take i xs ++ front (drop i xs)) (b : back xs ≡ back (drop i xs)) where
  pub cut_more : i < length xs → parts (slice_index xs i) ≡ false → (front xs ≡ take (i + 1) xs ++ front (drop (i + 1) xs)) × (back xs ≡ back (drop (i + 1) xs))
  cut_more h p =
      let f' : front (drop i xs) ≡ slice_index xs i ∷ front (drop (i + 1) xs) = at_drop_more front xs i 0 h ∙ cond-false _ _ _ p in
      let b' : back (drop i xs) ≡ back (drop (i + 1) xs) = at_drop_more back xs i 0 h ∙ cond-false _ _ _ p in
      let t = take_more xs i 0 h in (
        f ∙ ap (λ zs. take i xs ++ zs) f'
            ∙ sym (ap (λ zs. zs ++ front (drop (i + 1) xs)) t ∙ append_assoc (take i xs) (slice_index xs i ∷ []) (front (drop (i + 1) xs))),
        b ∙ b',
      )

  pub cut_stop : i < length xs → parts (slice_index xs i) ≡ true → (take i xs ≡ front xs) × (drop i xs ≡ back xs)
  cut_stop h p =
      let f' : front (drop i xs) ≡ [] = at_drop_more front xs i 0 h ∙ cond-true _ _ _ p in
      let b' : back (drop i xs) ≡ drop i xs = at_drop_more back xs i 0 h ∙ cond-true _ _ _ p ∙ sym (drop_more xs i 0 h) in
      (sym (f ∙ ap (λ zs. take i xs ++ zs) f' ∙ append-nil _), sym (b ∙ b'))

  pub cut_end : length xs ≤ i → (take i xs ≡ front xs) × (drop i xs ≡ back xs)
  cut_end h = (sym (f ∙ ap (λ zs. take i xs ++ zs) (at_drop_all front xs i h) ∙ append-nil _), drop_all i xs h ∙ sym (b ∙ at_drop_all back xs i h))
