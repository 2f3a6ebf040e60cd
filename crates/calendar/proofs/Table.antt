-- The table follows the calendar because each entry does: one test by the definitions, which the checker computes over all 1,800.
use mathlib.Core.Path.{◌≡◌, refl}
use mathlib.Core.Bool.{Bool, true}
use Prim.Native.Nat.{ℕ, ◌+◌, ◌*◌, ◌<◌}
use lib.Dec.{eqb}
use lib.ListN.{get_or}
use borrow.Author.Tests.{eqb-true}
use Rattle.calendar.specs.declared.months.TheConstants.{DAYS_BEFORE}
use Rattle.calendar.specs.Days.{leap, february, month_length}
use Rattle.calendar.specs.Number.{days_of_years, days_of_months}
use Rattle.calendar.proofs.Days.{passes, passes_at}

-- whether entry m of year k, both counted from 0, is the days of the years and months before it
right : ℕ → ℕ → Bool
right k m = eqb (get_or DAYS_BEFORE (k * 12 + m) 0) (days_of_years k + days_of_months (1950 + k) m)

-- whether all twelve entries of a year are
right-year : ℕ → Bool
right-year k = passes (right k) 12

tested : passes right-year 150 ≡ true
unfolding right-year right days_of_years days_of_months month_length february leap
tested = refl

-- so each entry is
pub carried : (k m : ℕ) → k < 150 → m < 12 → get_or DAYS_BEFORE (k * 12 + m) 0 ≡ days_of_years k + days_of_months (1950 + k) m
unfolding right-year right
carried k m hk hm = eqb-true _ _ (passes_at (right k) 12 (passes_at right-year 150 tested k hk) m hm)
