-- A CRL's age on a day: 1 for the day, the CRL's own refusals, 1 for a this-update after 2099, or the days from its
-- this-update day to that day.
use Rattle.std.specs.Prelude.{ℕ, ◌/◌, cond, List, ℤ, Result, Ok, Err}
use Rattle.der.specs.Forms.{paper}
use Rattle.refusal.specs.declared.Refusal.TheVariants.{Argument}
use Rattle.refusal.specs.declared.Refusal.{Refusal}
use Rattle.calendar.specs.Days.{real_day}
use Rattle.calendar.specs.Difference.{difference_of}
use Rattle.crl.specs.declared.Fields.{Fields}
use Rattle.crl.specs.Answer.{judged_of}

unfoldable pub aged_by : ℕ → Result Fields Refusal → Result ℤ Refusal
aged_by day (Err refusal) = Err refusal
aged_by day (Ok fields) = difference_of (fields.this_update / 1000000) day

unfoldable pub age_of : List ℕ → ℕ → Result ℤ Refusal
age_of s day = cond (real_day 1950 2099 day) (aged_by day (judged_of paper s)) (Err Argument)
