-- The row rules that the engine has.
--     select k low high least most    keeps the rows with key in low..high, least not below one bound and most not above the other
--     shift k                     adds k to start and end; FOREVER stays
--     set_duration d              makes the end start + d
-- OutOfTime where a finite time would pass 4,000,000,000.
use Rattle.std.specs.Prelude.{ℕ, ◌+◌, Bool, cond, ◌&&◌, ◌==◌, Ok, Err, nat_le}
use Rattle.refusals.specs.declared.refusal.Refusal.TheVariants.{OutOfTime}
use Rattle.rows.specs.Kinds.{Kind}
use Rattle.rows.specs.Rows.{Plain}
use Rattle.rows.specs.Times.{finite, forever}
use Rattle.rewriting.specs.Rules.{Image, refuses, nothing, to, Rule}

abbrev pub selected : Kind → ℕ → ℕ → ℕ → ℕ → Plain → Bool
selected k low high least most r =
    (nat_le low r.key && nat_le r.key high) && (nat_le least (k.least r.key r.value) && nat_le (k.most r.key r.value) most)

abbrev pub select : Kind → ℕ → ℕ → ℕ → ℕ → Rule
select k low high least most = record {
  image = λ r. cond (selected k low high least most r) (to r.start r.end) nothing;
  advance = λ t. Ok t;
}

-- the image where a time is finite, else OutOfTime
abbrev pub in_time : ℕ → Image → Image
in_time t i = cond (finite t) i (refuses OutOfTime)

abbrev pub shifted_end : ℕ → ℕ → ℕ
shifted_end k e = cond (e == forever) forever (e + k)

abbrev pub end_in_time : ℕ → ℕ → Image → Image
end_in_time k e i = cond (e == forever) i (in_time (e + k) i)

abbrev pub shift : ℕ → Rule
shift k = record {
  image = λ r. in_time (r.start + k) (end_in_time k r.end (to (r.start + k) (shifted_end k r.end)));
  advance = λ t. cond (finite (t + k)) (Ok (t + k)) (Err OutOfTime);
}

abbrev pub set_duration : ℕ → Rule
set_duration d = record {
  image = λ r. in_time (r.start + d) (to r.start (r.start + d));
  advance = λ t. Ok t;
}
