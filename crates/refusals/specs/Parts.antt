-- What reading a part at the front of some bytes gives.
--     Part A            a part of type A and the bytes after it, or why there is none
--     told r            the answer r of a call that reads a part, with the bytes that its reference points to
--     rest_told r       the same of a call that answers the bytes after a part alone
use Rattle.std.specs.Prelude.{List, ℕ, Result}
use Rattle.std.specs.Borrow.{Bor}
use Rattle.std.specs.Result.{result_map_both}
use Rattle.refusals.specs.declared.refusal.Refusal.{Refusal}

abbrev pub Part : Type 0 → Type 0
Part A = Result (A × List ℕ) Refusal

abbrev pub told : {A : Type 0} → Result (A × Bor (List ℕ)) Refusal → Part A
told r = result_map_both (λ p. (p.0, p.1.now)) (λ why. why) r

abbrev pub rest_told : Result (Bor (List ℕ)) Refusal → Result (List ℕ) Refusal
rest_told r = result_map_both (λ rest. rest.now) (λ why. why) r
