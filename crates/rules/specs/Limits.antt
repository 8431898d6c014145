-- The limits of the rules' numbers.
--     select_made low high least most     the select that is asked for, or BadRule where a lower bound is above its upper one
--     within limit n              n seconds, from 1 to the limit, or BadRule
--     counted r                   the answer r of a call that makes such seconds, as a number
--     shift_made k                by how much a shift moves, 1 to 86,400, or BadRule
--     duration_made d             how long a set duration lasts, 1 to 2,592,000, or BadRule
--     made_shift r, made_duration r   the answer r of a call that makes such a rule, its rule as a number
use Rattle.std.specs.Prelude.{ℕ, cond, ◌&&◌, Ok, Err, Result, nat_le}
use Rattle.refusals.specs.declared.refusal.Refusal.{Refusal}
use Rattle.refusals.specs.declared.refusal.Refusal.TheVariants.{BadRule}
use Rattle.rules.specs.declared.seconds.Seconds.{Seconds}
use Rattle.rules.specs.declared.select.Select.{Select}
use Rattle.rules.specs.declared.shift.Shift.{Shift}
use Rattle.rules.specs.declared.set_duration.SetDuration.{SetDuration}

abbrev pub select_made : ℕ → ℕ → ℕ → ℕ → Result Select Refusal
select_made low high least most =
    cond (nat_le low high && nat_le least most) (Ok (record { low = low; high = high; least = least; most = most })) (Err BadRule)

abbrev pub within : ℕ → ℕ → Result ℕ Refusal
within limit n = cond (nat_le 1 n && nat_le n limit) (Ok n) (Err BadRule)

abbrev pub counted : {most : ℕ} → Result (Seconds most) Refusal → Result ℕ Refusal
counted (Ok x) = Ok x.count
counted (Err why) = Err why

abbrev pub shift_made : ℕ → Result ℕ Refusal
shift_made k = within 86400 k

abbrev pub made_shift : Result Shift Refusal → Result ℕ Refusal
made_shift (Ok x) = Ok x.by.count
made_shift (Err why) = Err why

abbrev pub duration_made : ℕ → Result ℕ Refusal
duration_made d = within 2592000 d

abbrev pub made_duration : Result SetDuration Refusal → Result ℕ Refusal
made_duration (Ok x) = Ok x.lasting.count
made_duration (Err why) = Err why
