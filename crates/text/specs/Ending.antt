-- The text form keeps the law of forms.
--     byte_first        what a byte that is read stands before
--     text_ends         an event that is read takes at least one byte, and leaves the bytes after its own
use Rattle.std.specs.Prelude.{◌≡◌, ℕ, List, [], ◌∷◌, Ok, Err, decimal, ◌==◌}
use Rattle.std.proofs.Common.{sym, ap, ◌∙◌, inl, inr, arith}
use Rattle.std.proofs.lemmas.Bool.{cases_eq, cond-true, cond-false, eq-eqb, ne_eqb}
use Rattle.std.proofs.lemmas.Fmt.{decimal_nonempty}
use Rattle.decimals.specs.Decimals.{decimal_read}
use Rattle.decimals.proofs.Exactness.{read_written}
use Rattle.refusals.specs.declared.refusal.Refusal.TheVariants.{BadByte}
use Rattle.refusals.specs.Parts.{Part}
use Rattle.files.specs.declared.fields.EndField.TheVariants.{At, Forever}
use Rattle.files.specs.declared.fields.Fields.{Fields}
use Rattle.files.specs.Orders.{bind, insert_by, retraction_by, cti_by}
use Rattle.files.proofs.Binding.{Shortens, ok_parts, bind_ends, made_ends, insert_ends, retraction_ends, cti_ends}
use Rattle.files.proofs.ByKind.{by_kind_ends}
use Rattle.text.specs.Text.{byte_read, number_read, time_read, end_read, closed, text_read}

pub byte_first : (b : ℕ) (u : Unit {0}) (bs rest : List ℕ) → byte_read b bs ≡ Ok (u, rest) → bs ≡ b ∷ rest
byte_first b u [] rest e = absurd (let z : ◌≡◌ {A = ℕ} 0 1 = cc in omega arith)
byte_first b u (x ∷ xs) rest e =
    elim (cases_eq x b) [
      | inl p ↦ let o = ok_parts tt u xs rest (sym (cond-true (x == b) _ _ (eq-eqb x b p)) ∙ e) in ap (λ y. y ∷ xs) p ∙ ap (λ zs. b ∷ zs) o.1
      | inr p ↦
          let f : ◌≡◌ {A = Part (Unit {0})} (Err BadByte) (Ok (u, rest)) = sym (cond-false (x == b) _ _ (ne_eqb x b p)) ∙ e in
          absurd (let z : ◌≡◌ {A = ℕ} 0 1 = cc in omega arith)
    ]

decimal_ends : Shortens decimal_read
decimal_ends bs rest n e =
    let w = read_written n rest bs e in
    (decimal n, decimal_nonempty n (let h = w.0 in omega arith), w.2)

byte_ends : (b : ℕ) → Shortens (byte_read b)
byte_ends b bs rest u e = (b ∷ [], omega arith, byte_first b u bs rest e)

number_ends : Shortens number_read
number_ends = bind_ends (byte_read 32) (λ _ xs. decimal_read xs) (byte_ends 32) (λ _. decimal_ends)

time_ends : Shortens time_read
time_ends [] rest x e = absurd (let z : ◌≡◌ {A = ℕ} 0 1 = cc in omega arith)
time_ends (b ∷ bs) rest x e =
    elim (cases_eq b 42) [
      | inl p ↦ (b ∷ [], omega arith, ap (λ zs. b ∷ zs) (ok_parts Forever x bs rest (sym (cond-true (b == 42) _ _ (eq-eqb b 42 p)) ∙ e)).1)
      | inr p ↦ made_ends decimal_read (λ n. At n) decimal_ends (b ∷ bs) rest x (sym (cond-false (b == 42) _ _ (ne_eqb b 42 p)) ∙ e)
    ]

end_ends : Shortens end_read
end_ends = bind_ends (byte_read 32) (λ _ xs. time_read xs) (byte_ends 32) (λ _. time_ends)

closed_ends : (read : List ℕ → Part Fields) → Shortens read → Shortens (λ bs. closed (read bs))
closed_ends read s = bind_ends read (λ f xs. bind (byte_read 10 xs) (λ _ more. Ok (f, more))) s (λ f. made_ends (byte_read 10) (λ _. f) (byte_ends 10))

pub text_ends : Shortens text_read
text_ends =
    by_kind_ends (λ xs. closed (insert_by number_read end_read xs)) (λ xs. closed (retraction_by number_read end_read xs))
    (λ xs. closed (cti_by number_read xs)) 73 82 67
    (closed_ends (insert_by number_read end_read) (insert_ends number_read end_read number_ends end_ends))
    (closed_ends (retraction_by number_read end_read) (retraction_ends number_read end_read number_ends end_ends))
    (closed_ends (cti_by number_read) (cti_ends number_read end_read number_ends end_ends))
