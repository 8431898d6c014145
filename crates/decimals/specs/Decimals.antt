-- A decimal number at the front of some bytes: digits that come to at most 4,294,967,295, with no zero before another digit.
--     digit b               b is one of the bytes `0` to `9`
--     digit_first bs        bs begins with a digit
--     push v b              the number v with the digit b written after it
--     with_digit v b        push v b, or None where b is no digit or the number is larger than 4,294,967,295
--     taken v bs            v with the digits at the front of bs after it, as far as the number stays at most 4,294,967,295;
--                           and the bytes after those digits
--     leading_zero bs       bs begins with `0` and then another digit
--     decimal_fault bs      why bs does not begin with a decimal number, or None. The number is the longest run of digits
--     unless f p            p where the fault f is None, else the fault
--     decimal_read bs       the number that bs begins with and the bytes after it, or the fault
--     Written n rest bs     bs is n as it is printed and then rest, n is below 2 ^ 32, and rest begins with no digit
--     DecimalExact bs       bs is read as n and rest just where it is n as it is printed and then rest
use Rattle.std.specs.Prelude.{◌≡◌, ℕ, ◌+◌, ◌-◌, ◌*◌, ◌^◌, ◌<◌, Bool, false, cond, ◌&&◌, ◌||◌, List, [], ◌∷◌, ◌++◌, Some, None, Ok, Err, decimal, Option, Result, ◌==◌, nat_le}
use Rattle.refusals.specs.declared.refusal.Refusal.{Refusal}
use Rattle.refusals.specs.declared.refusal.Refusal.TheVariants.{CutOff, BadByte, BadNumber}

abbrev pub digit : ℕ → Bool
digit b = nat_le 48 b && nat_le b 57

abbrev pub digit_first : List ℕ → Bool
digit_first [] = false
digit_first (b ∷ bs) = digit b

abbrev pub push : ℕ → ℕ → ℕ
push v b = 10 * v + (b - 48)

abbrev pub with_digit : ℕ → ℕ → Option ℕ
with_digit v b = cond (digit b && nat_le (push v b) 4294967295) (Some (push v b)) None

abbrev pub taken : ℕ → List ℕ → ℕ × List ℕ
taken v [] = (v, [])
taken v (b ∷ bs) = cond (digit b && nat_le (push v b) 4294967295) (taken (push v b) bs) (v, b ∷ bs)

abbrev pub leading_zero : List ℕ → Bool
leading_zero [] = false
leading_zero (b ∷ bs) = b == 48 && digit_first bs

-- a digit that is not taken shows that the number is too large
abbrev pub decimal_fault : List ℕ → Option Refusal
decimal_fault [] = Some CutOff
decimal_fault (b ∷ bs) = cond (digit b) (cond (leading_zero (b ∷ bs) || digit_first (taken 0 (b ∷ bs)).1) (Some BadNumber) None) (Some BadByte)

abbrev pub unless : Option Refusal → ℕ × List ℕ → Result (ℕ × List ℕ) Refusal
unless None p = Ok p
unless (Some r) p = Err r

abbrev pub decimal_read : List ℕ → Result (ℕ × List ℕ) Refusal
decimal_read bs = unless (decimal_fault bs) (taken 0 bs)

abbrev pub Written : ℕ → List ℕ → List ℕ → Type 0
Written n rest bs = (n < 2 ^ 32) × (digit_first rest ≡ false) × (bs ≡ decimal n ++ rest)

unfoldable pub DecimalExact : List ℕ → Type 0
DecimalExact bs = (n : ℕ) (rest : List ℕ) → (Written n rest bs → decimal_read bs ≡ Ok (n, rest)) × (decimal_read bs ≡ Ok (n, rest) → Written n rest bs)
