-- What the first byte of an event leads to. Assumes nothing.
use Rattle.std.proofs.Common.{◌≡◌, ◌≢◌, ℕ, List, ◌∷◌, Err, ap, ◌∙◌}
use Rattle.std.proofs.lemmas.Bool.{ne_eqb, cond-false}
use Rattle.refusals.specs.declared.refusal.Refusal.TheVariants.{BadByte}
use Rattle.files.specs.Orders.{insert_by, retraction_by, cti_by}
use Rattle.groups.specs.Groups.{groups_read}
use Rattle.binary.specs.Binary.{end_read, binary_read}

module _ (k : ℕ) (bs rest : List ℕ) (first : bs ≡ k ∷ rest) where
  pub insert_kind : k ≡ 1 → binary_read bs ≡ insert_by groups_read end_read rest
  insert_kind e = ap binary_read (first ∙ ap (λ j. j ∷ rest) e)

  pub retraction_kind : k ≡ 2 → binary_read bs ≡ retraction_by groups_read end_read rest
  retraction_kind e = ap binary_read (first ∙ ap (λ j. j ∷ rest) e)

  pub cti_kind : k ≡ 3 → binary_read bs ≡ cti_by groups_read rest
  cti_kind e = ap binary_read (first ∙ ap (λ j. j ∷ rest) e)

  pub no_kind : (k ≢ 1) → (k ≢ 2) → (k ≢ 3) → binary_read bs ≡ Err BadByte
  no_kind p q r = ap binary_read first ∙ cond-false _ _ _ (ne_eqb k 1 p) ∙ cond-false _ _ _ (ne_eqb k 2 q) ∙ cond-false _ _ _ (ne_eqb k 3 r)
