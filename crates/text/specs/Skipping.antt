-- Where the parts of a line end, without what they are.
--     Skip                    the bytes after a part, or a refusal
--     after r                 the bytes after the part r
--     onward s go             go at the bytes after s, or the refusal
--     skip_byte, skip_number, skip_time, skip_end, skip_head, skip_pair, skip_insert, skip_retraction, skip_cti, skip_line
--                             the bytes after the part of that name
use Rattle.std.specs.Prelude.{ℕ, cond, List, [], ◌∷◌, Ok, Err, Result, ◌==◌}
use Rattle.decimals.specs.Decimals.{decimal_read}
use Rattle.refusals.specs.declared.refusal.Refusal.{Refusal}
use Rattle.refusals.specs.declared.refusal.Refusal.TheVariants.{CutOff, BadByte}
use Rattle.refusals.specs.Parts.{Part}

abbrev pub Skip : Type 0
Skip = Result (List ℕ) Refusal

abbrev pub after : {A : Type 0} → Part A → Skip
after (Ok p) = Ok p.1
after (Err why) = Err why

abbrev pub onward : Skip → (List ℕ → Skip) → Skip
onward (Ok bs) go = go bs
onward (Err why) go = Err why

abbrev pub skip_byte : ℕ → List ℕ → Skip
skip_byte b [] = Err CutOff
skip_byte b (x ∷ xs) = cond (x == b) (Ok xs) (Err BadByte)

abbrev pub skip_number : List ℕ → Skip
skip_number bs = onward (skip_byte 32 bs) (λ rest. after (decimal_read rest))

abbrev pub skip_time : List ℕ → Skip
skip_time [] = Err CutOff
skip_time (b ∷ bs) = cond (b == 42) (Ok bs) (after (decimal_read (b ∷ bs)))

abbrev pub skip_end : List ℕ → Skip
skip_end bs = onward (skip_byte 32 bs) skip_time

abbrev pub skip_head : List ℕ → Skip
skip_head bs = onward (skip_number bs) (λ xs. onward (skip_number xs) skip_end)

abbrev pub skip_pair : List ℕ → Skip
skip_pair bs = onward (skip_number bs) skip_number

abbrev pub skip_insert : List ℕ → Skip
skip_insert bs = onward (skip_head bs) (λ xs. onward (skip_pair xs) (skip_byte 10))

abbrev pub skip_retraction : List ℕ → Skip
skip_retraction bs = onward (skip_head bs) (λ xs. onward (skip_end xs) (λ ys. onward (skip_pair ys) (skip_byte 10)))

abbrev pub skip_cti : List ℕ → Skip
skip_cti bs = onward (skip_number bs) (skip_byte 10)

abbrev pub skip_line : List ℕ → Skip
skip_line [] = Err CutOff
skip_line (b ∷ bs) = cond (b == 73) (skip_insert bs) (cond (b == 82) (skip_retraction bs) (cond (b == 67) (skip_cti bs) (Err BadByte)))
