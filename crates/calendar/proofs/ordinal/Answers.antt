-- A real day's number is the table's entry for its month and the days of the month before it; no other day has one.
use Rattle.std.specs.Prelude.{Some}
use mathlib.Core.Path.{◌≡◌, sym, ◌∙◌, ap}
use mathlib.Core.Bool.{true}
use Prim.Native.Nat.{ℕ, ◌+◌, ◌-◌}
use native.Mathlib.Omega.{arith}
use Rattle.calendar.specs.Days.{real_day, year_of, day_of}
use Rattle.calendar.specs.Number.{days_of_years, days_of_months, day_number}
use Rattle.calendar.proofs.Days.{Real, real}
use Rattle.calendar.proofs.Number.{number-most}
use Rattle.calendar.proofs.ordinal.Goals as goal
use Rattle.calendar.proofs.ordinal.Goals.{After-days_before, Else-not-real_day}

is_real : (c : Else-not-real_day) → real_day 1950 2099 c.args.day ≡ true
is_real c = sym c.real_day.ensures ∙ c.if-not-real_day.false

known : (c : Else-not-real_day) → Real 1950 2099 c.args.day
known c = real 1950 2099 _ (is_real c)

number : (c : After-days_before)
    → c.days_before.result + day_of c.args.day
    ≡ day_number c.args.day + 1
unfolding day_number
number c =
    let year = year_of c.args.day in
    let month = ap (λ (m : ℕ). days_of_years (year - 1950) + days_of_months year (m - 1)) c.month_of.ensures in
    omega (arith, c.days_before.ensures ∙ month, known c.before.before)

pub days_before-requires : goal.days_before-requires
days_before-requires c = omega (arith, known (goal.at.days_before-requires c).Else-not-real_day, c.month_of.ensures)

pub overflow_add-result : goal.overflow_add-result
overflow_add-result c =
    let this = goal.at.overflow_add-result c in
    omega (arith, number this.After-days_before, number-most _ (known this.Else-not-real_day))

pub overflow_sub-result : goal.overflow_sub-result
overflow_sub-result c = omega (arith, number (goal.at.overflow_sub-result c).After-days_before)

pub returns : goal.returns
returns c =
    let this = goal.at.returns c in
    let told : c.days_before.result + day_of c.args.day - 1 ≡ day_number c.args.day = omega (arith, number this.After-days_before) in
    ap Some told ∙ simp (is_real this.Else-not-real_day)
