-- What the laws of row rules say of a row's images before and after a retraction.
use Rattle.std.proofs.Common.{◌≡◌, ℕ, ◌≤◌, min, true, ◌⊎◌, Ok, refl, ⊎_elim, arith}
use Rattle.std.proofs.lemmas.Bool.{cases_eq}
use Rattle.std.proofs.lemmas.Bool.Decides.{nat_tests}
use Rattle.rows.specs.Rows.{Plain, standing, with_end}
use Rattle.rows.specs.Events.{retraction, timely}
use Rattle.rewriting.specs.Rules.{Image, refuses, nothing, to, Rule, spanned, Ends, Keeps}
use Rattle.rewriting.specs.Layers.{new_image}

-- where c is the latest CTI below, the layer's own is d: 0 at first, and then what the rule makes of c
abbrev pub Latest : Rule → ℕ → ℕ → Type 0
Latest f c d = (d ≡ 0) ⊎ (f.advance c ≡ Ok d)

-- The images stand; a lone one starts at d or later; two start together, and end together or both at d or later.
abbrev pub Agree : ℕ → Plain → Image → Image → Type 0
Agree d r (refuses w) y = Unit {0}
Agree d r nothing (refuses w) = Unit {0}
Agree d r nothing nothing = Unit {0}
Agree d r nothing (to m n) = (standing (spanned r m n) ≡ true) × (d ≤ m)
Agree d r (to a b) (refuses w) = Unit {0}
Agree d r (to a b) nothing = (standing (spanned r a b) ≡ true) × (d ≤ a)
Agree d r (to a b) (to m n) =
    (standing (spanned r a b) ≡ true) × (standing (spanned r m n) ≡ true) × (a ≡ m) × ((b ≡ n) ⊎ ((d ≤ b) × (d ≤ n)))

ends_from_0 : (x y : Image) → Ends 0 x y
ends_from_0 x y = grind arith

module _ (f : Rule) (laws : Keeps f) (c d : ℕ) (latest : Latest f c d) (r : Plain) where
  old_alone : standing r ≡ true → c ≤ r.start → Agree d r (f.image r) nothing
  old_alone old late =
      let rows = laws.rows r in
      let later = laws.later r c d in
      grind arith

  module _ (e : ℕ) (old : standing r ≡ true) (new : standing (with_end e r) ≡ true) where
    old_and_new : (x y : Image) → f.image r ≡ x → f.image (with_end e r) ≡ y → Ends d x y → Agree d r x y
    old_and_new (refuses w) y p q ends = tt
    old_and_new nothing (refuses w) p q ends = tt
    old_and_new nothing nothing p q ends = tt
    old_and_new nothing (to m n) p q ends = (laws.rows (with_end e r) m n new q, ends)
    old_and_new (to a b) (refuses w) p q ends = tt
    old_and_new (to a b) nothing p q ends = (laws.rows r a b old p, ends)
    old_and_new (to a b) (to m n) p q ends =
        (laws.rows r a b old p, laws.rows (with_end e r) m n new q, laws.starts r (with_end e r) a b m n old new refl refl refl p q, ends)

    ends_from_latest : c ≤ r.end → c ≤ e → Ends d (f.image r) (f.image (with_end e r))
    ends_from_latest l m = ⊎_elim (λ z. rw z (ends_from_0 (f.image r) (f.image (with_end e r)))) (laws.ends r e c d old new l m) latest

  pub images_agree : (e : ℕ) → timely (retraction r e) ≡ true → c ≤ min r.end e → Agree d r (f.image r) (new_image f r e)
  images_agree e lawful late =
      let old : standing r ≡ true = grind (arith, nat_tests) in
      ⊎_elim
      (λ taken.
      let none : new_image f r e ≡ nothing = grind (arith, nat_tests) in
      rw none (old_alone old (omega arith)))
      (λ left.
      let new : standing (with_end e r) ≡ true = grind (arith, nat_tests) in
      let moved : new_image f r e ≡ f.image (with_end e r) = grind (arith, nat_tests) in
      rw moved (old_and_new e old new (f.image r) (f.image (with_end e r)) refl refl (ends_from_latest e old new (omega arith) (omega arith))))
      (cases_eq e r.start)
