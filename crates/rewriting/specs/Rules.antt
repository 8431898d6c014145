-- Row rules, and the laws that each of them keeps.
--     Image                       what a rule makes of a row: a refusal, nothing, or the same id and payload from a start to an end
--     Rule                        a rule: the image of each row, and the CTI that each CTI becomes, or a refusal
--     spanned r a b               the row r from a to b
--     Keeps f                     the rule f keeps the laws of row rules
--     AllKeep fs                  so does each of the rules fs
use Rattle.std.specs.Prelude.{◌≡◌, ℕ, ◌≤◌, true, ◌⊎◌, List, [], ◌∷◌, Ok, Result}
use Rattle.refusals.specs.declared.refusal.Refusal.{Refusal}
use Rattle.rows.specs.Rows.{Plain, standing, with_end}
use Rattle.rows.specs.Times.{finite}

pub data Image : Type 0 where
  refuses : Refusal → Image
  nothing : Image
  to : ℕ → ℕ → Image

pub record Rule : Type 0 where
  pub image : Plain → Image
  pub advance : ℕ → Result ℕ Refusal

abbrev pub spanned : Plain → ℕ → ℕ → Plain
spanned r a b = record { id = r.id; start = a; end = b; key = r.key; value = r.value }

-- two images have equal ends or both end at u or later; a lone image starts at u or later
abbrev pub Ends : ℕ → Image → Image → Type 0
Ends u (refuses w) y = Unit {0}
Ends u nothing (refuses w) = Unit {0}
Ends u nothing nothing = Unit {0}
Ends u nothing (to c d) = u ≤ c
Ends u (to a b) (refuses w) = Unit {0}
Ends u (to a b) nothing = u ≤ a
Ends u (to a b) (to c d) = (b ≡ d) ⊎ ((u ≤ b) × (u ≤ d))

-- Owed where the rule refuses nothing, of rows with lawful times:
--     starts    the image's start depends on start and payload alone
--     later     a row that starts at t or later has no image, or one that starts at g(t) or later
--     ends      of two rows that differ only in their ends, both t or later: two images have equal ends, or both end at g(t)
--               or later; a lone image starts at g(t) or later
--     rises     a higher t never gives a lower g(t)
--     rows      the image of a row with lawful times is one
--     times     a finite CTI becomes a finite one
pub record Keeps (f : Rule) : Type 0 where
  pub starts : (x y : Plain) (a b c d : ℕ) → standing x ≡ true → standing y ≡ true →
      x.start ≡ y.start → x.key ≡ y.key → x.value ≡ y.value → f.image x ≡ to a b → f.image y ≡ to c d → a ≡ c
  pub later : (x : Plain) (t u a b : ℕ) → standing x ≡ true → t ≤ x.start → f.advance t ≡ Ok u → f.image x ≡ to a b → u ≤ a
  pub ends : (x : Plain) (e t u : ℕ) → standing x ≡ true → standing (with_end e x) ≡ true → t ≤ x.end → t ≤ e →
      f.advance t ≡ Ok u → Ends u (f.image x) (f.image (with_end e x))
  pub rises : (t v u w : ℕ) → t ≤ v → f.advance t ≡ Ok u → f.advance v ≡ Ok w → u ≤ w
  pub rows : (x : Plain) (a b : ℕ) → standing x ≡ true → f.image x ≡ to a b → standing (spanned x a b) ≡ true
  pub times : (t u : ℕ) → finite t ≡ true → f.advance t ≡ Ok u → finite u ≡ true

abbrev pub AllKeep : List Rule → Type 0
AllKeep [] = Unit {0}
AllKeep (f ∷ fs) = Keeps f × AllKeep fs
