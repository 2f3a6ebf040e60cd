-- The tests are those of the definition: for the years on the number itself, and a day to 28 is in every month.
use mathlib.Core.Path.{sym, ◌∙◌, ap}
use native.Mathlib.Omega.{arith}
use lib.Dec.{leb}
use borrow.Author.Tests.{le-leb}
use Rattle.calendar.specs.Days.{month_length}
use Rattle.calendar.proofs.Days.{not-real, by_length, to-28}
use Rattle.calendar.proofs.real_day.Goals as goal

pub returns-then-day-lt19500000 : goal.returns-then-day-lt19500000
returns-then-day-lt19500000 c = sym (not-real 1950 2099 _ (λ r. omega (arith, r, c.then-day-lt19500000.either)))

pub returns-then-month-lt1 : goal.returns-then-month-lt1
returns-then-month-lt1 c = sym (not-real 1950 2099 _ (λ r. omega (arith, r, c.month_of-month.ensures, c.then-month-lt1.either)))

pub returns-then-of_month-le28 : goal.returns-then-of_month-le28
returns-then-of_month-le28 c =
    let month = c.month_of-month.ensures in
    le-leb _ _ c.if-of_month-le28.true
    ∙ sym (to-28 1950 2099 _ (omega arith) (omega arith) (omega (arith, month)) (omega (arith, month)) (omega arith) c.if-of_month-le28.true)

pub returns-else-of_month-le28 : goal.returns-else-of_month-le28
returns-else-of_month-le28 c =
    sym
    (by_length 1950 2099 _ (omega arith) (omega arith) (omega arith)
    ∙ ap (leb _) (sym (c.month_length.ensures ∙ ap (month_length _) c.month_of-month.ensures)))
