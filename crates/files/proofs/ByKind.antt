-- What the byte of an event's kind leads to. Assumes nothing.
use Rattle.std.proofs.Common.{◌≡◌, ℕ, List, [], ◌∷◌, Ok, Err, sym, ◌∙◌, inl, inr, arith}
use Rattle.std.proofs.lemmas.Bool.{cases_eq, eq-eqb, ne_eqb, cond-true, cond-false}
use Rattle.refusals.specs.declared.refusal.Refusal.TheVariants.{BadByte}
use Rattle.refusals.specs.Parts.{Part}
use Rattle.files.specs.declared.fields.Fields.{Fields}
use Rattle.files.specs.Orders.{by_kind}
use Rattle.files.specs.Reading.{Ends}
use Rattle.files.proofs.Binding.{Shortens, ends_cons}

-- an event that is read is one of the three kinds
pub data Kinded (insert retraction cti : List ℕ → Part Fields) (i r c b : ℕ) (bs rest : List ℕ) (f : Fields) : Type 0 where
  inserted : b ≡ i → insert bs ≡ Ok (f, rest) → Kinded insert retraction cti i r c b bs rest f
  retracted : b ≡ r → retraction bs ≡ Ok (f, rest) → Kinded insert retraction cti i r c b bs rest f
  timed : b ≡ c → cti bs ≡ Ok (f, rest) → Kinded insert retraction cti i r c b bs rest f

module _ (insert retraction cti : List ℕ → Part Fields) (i r c : ℕ) where
  pub kinded : (b : ℕ) (bs rest : List ℕ) (f : Fields) → by_kind insert retraction cti i r c (b ∷ bs) ≡ Ok (f, rest) →
      Kinded insert retraction cti i r c b bs rest f
  kinded b bs rest f e =
      elim (cases_eq b i) [
        | inl p ↦ inserted p (sym (cond-true _ _ _ (eq-eqb b i p)) ∙ e)
        | inr p ↦
            let e' = sym (cond-false _ _ _ (ne_eqb b i p)) ∙ e in
            elim (cases_eq b r) [
              | inl q ↦ retracted q (sym (cond-true _ _ _ (eq-eqb b r q)) ∙ e')
              | inr q ↦
                  let e'' = sym (cond-false _ _ _ (ne_eqb b r q)) ∙ e' in
                  elim (cases_eq b c) [
                    | inl z ↦ timed z (sym (cond-true _ _ _ (eq-eqb b c z)) ∙ e'')
                    | inr z ↦
                        let no : ◌≡◌ {A = Part Fields} (Err BadByte) (Ok (f, rest)) = sym (cond-false _ _ _ (ne_eqb b c z)) ∙ e'' in
                        absurd (let o : ◌≡◌ {A = ℕ} 0 1 = cc in omega arith)
                  ]
            ]
      ]

  module _ (s : Shortens insert) (t : Shortens retraction) (u : Shortens cti) where
    kinded_ends : (b : ℕ) (bs rest : List ℕ) (f : Fields) → Kinded insert retraction cti i r c b bs rest f → Ends rest bs
    kinded_ends b bs rest f (inserted p e) = s bs rest f e
    kinded_ends b bs rest f (retracted p e) = t bs rest f e
    kinded_ends b bs rest f (timed p e) = u bs rest f e

    pub by_kind_ends : Shortens (by_kind insert retraction cti i r c)
    by_kind_ends [] rest f e = absurd (let z : ◌≡◌ {A = ℕ} 0 1 = cc in omega arith)
    by_kind_ends (b ∷ bs) rest f e = ends_cons b bs rest (kinded_ends b bs rest f (kinded b bs rest f e))
