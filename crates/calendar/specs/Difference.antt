-- The signed difference of two days of 1950 to 2099, negative when the second is earlier; else refusal 1.
use Rattle.std.specs.Prelude.{ℕ, cond, ◌&&◌, pos, ◌-ℤ◌, ℤ, Result, Ok, Err}
use Rattle.refusal.specs.declared.Refusal.TheVariants.{Argument}
use Rattle.refusal.specs.declared.Refusal.{Refusal}
use Rattle.calendar.specs.Days.{real_day}
use Rattle.calendar.specs.Number.{day_number}

unfoldable pub difference_of : ℕ → ℕ → Result ℤ Refusal
difference_of first second =
    cond (real_day 1950 2099 first && real_day 1950 2099 second)
    (Ok (pos (day_number second) -ℤ pos (day_number first)))
    (Err Argument)
