-- The number of a day, counted from 19500101, which is 0: the days of the years and months before it.
use Rattle.std.specs.Prelude.{ℕ, zero, suc, ◌+◌, ◌-◌, ◌*◌, cond, ltb}
use Rattle.calendar.specs.Days.{month_length, year_of, month_of, day_of}

-- the days of the first k months of year y
unfoldable pub days_of_months : ℕ → ℕ → ℕ
days_of_months y zero = 0
days_of_months y (suc k) = days_of_months y k + month_length y (suc k)

-- the days of the first k years from 1950 on
unfoldable pub days_of_years : ℕ → ℕ
days_of_years zero = 0
days_of_years (suc k) = days_of_years k + days_of_months (1950 + k) 12

unfoldable pub day_number : ℕ → ℕ
day_number day =
    days_of_years (year_of day - 1950) + days_of_months (year_of day) (month_of day - 1) + (day_of day - 1)

unfoldable pub day_on : ℕ → ℕ → ℕ → ℕ
day_on y m d = y * 10000 + m * 100 + d

-- the day after: in the same month, the next month or the next year
unfoldable pub day_after : ℕ → ℕ
day_after day =
    cond (ltb (day_of day) (month_length (year_of day) (month_of day)))
    (day_on (year_of day) (month_of day) (day_of day + 1))
    (cond (ltb (month_of day) 12) (day_on (year_of day) (month_of day + 1) 1) (day_on (year_of day + 1) 1 1))
