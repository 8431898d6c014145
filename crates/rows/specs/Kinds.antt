-- What a kind of payload means.
--     Pair                        a key and a value
--     Kind                        a kind: its top value, and least and most for a key and a value
--     in_range k key value        the key is that of a locker, 0 to 9,999, and the value is at most the kind's top value
--     pair_made k key value       the pair that is asked for, or BadPayload where it is out of range
--     made_pair pair r            the answer r of a call that makes a payload, its payload as a pair
use Rattle.std.specs.Prelude.{ℕ, Bool, cond, ◌&&◌, Ok, Err, Result, nat_le}
use Rattle.refusals.specs.declared.refusal.Refusal.{Refusal}
use Rattle.refusals.specs.declared.refusal.Refusal.TheVariants.{BadPayload}

pub record Pair : Type 0 where
  pub key : ℕ
  pub value : ℕ

pub record Kind : Type 0 where
  pub top : ℕ
  pub least : ℕ → ℕ → ℕ
  pub most : ℕ → ℕ → ℕ

abbrev pub in_range : Kind → ℕ → ℕ → Bool
in_range k key value = nat_le key 9999 && nat_le value k.top

abbrev pub pair_made : Kind → ℕ → ℕ → Result Pair Refusal
pair_made k key value = cond (in_range k key value) (Ok (record { key = key; value = value })) (Err BadPayload)

abbrev pub made_pair : {P : Type 0} → (P → Pair) → Result P Refusal → Result Pair Refusal
made_pair pair (Ok x) = Ok (pair x)
made_pair pair (Err e) = Err e
