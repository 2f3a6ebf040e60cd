-- Each test that fails leaves no real moment with these pairs, and those that pass leave one.
use mathlib.Core.Path.{◌∙◌}
use native.Mathlib.Omega.{arith}
use Rattle.times.proofs.Pairs.{pair-same}
use Rattle.times.proofs.Moments.{none-real, one-real}
use Rattle.times.proofs.within.Goals as goal
use Rattle.times.proofs.within.Goals.{
  then-month-gt12-via-then-month-gt12,
  then-month-gt12-via-else-month-gt12+then-day-lt1,
  then-month-gt12-via-else-month-gt12+else-day-lt1+then-month_length-day,
  then-hour-gt23-via-then-hour-gt23,
  then-hour-gt23-via-else-hour-gt23+then-minute-gt59,
  then-hour-gt23-via-else-hour-gt23+else-minute-gt59+then-second-gt59,
}

pub returns-in_err-month : goal.returns-in_err-month
returns-in_err-month c =
    c.from_residual.ensures ∙ none-real c.args.year c.args.c.now c.requires.1 λ m w r. c.in_err-month.ensures w.month.tens w.month.ones

pub returns-in_err-day : goal.returns-in_err-day
returns-in_err-day c =
    c.from_residual-in_err-day.ensures ∙ none-real c.args.year c.args.c.now c.requires.1 λ m w r. c.in_err-day.ensures w.day.tens w.day.ones

pub returns-in_err-hour : goal.returns-in_err-hour
returns-in_err-hour c =
    c.from_residual-in_err-hour.ensures ∙ none-real c.args.year c.args.c.now c.requires.1 λ m w r. c.in_err-hour.ensures w.hour.tens w.hour.ones

pub returns-in_err-minute : goal.returns-in_err-minute
returns-in_err-minute c =
    c.from_residual-in_err-minute.ensures ∙ none-real c.args.year c.args.c.now c.requires.1 λ m w r. c.in_err-minute.ensures w.minute.tens w.minute.ones

pub returns-in_err-second : goal.returns-in_err-second
returns-in_err-second c =
    c.from_residual-in_err-second.ensures ∙ none-real c.args.year c.args.c.now c.requires.1 λ m w r. c.in_err-second.ensures w.second.tens w.second.ones

pub returns-then-month-gt12 : goal.returns-then-month-gt12
returns-then-month-gt12 c =
    none-real c.args.year c.args.c.now c.requires.1 λ m w r.
    let month = pair-same w.month c.in_ok-month.ensures in
    let day = pair-same w.day c.in_ok-day.ensures in
    elim c.then-month-gt12.branch [
      | then-month-gt12-via-then-month-gt12 v ↦ omega (arith, r.date.month-high, v.if-month-gt12.true)
      | then-month-gt12-via-else-month-gt12+then-day-lt1 v ↦ omega (arith, r.date.day-low, v.if-day-lt1.true)
      | then-month-gt12-via-else-month-gt12+else-day-lt1+then-month_length-day v ↦
          let high = rw (w.year-is, month, day) at r.date.day-high in omega (arith, high, v.month_length.ensures, v.if-month_length-day.true)
    ]

pub returns-then-hour-gt23 : goal.returns-then-hour-gt23
returns-then-hour-gt23 c =
    none-real c.args.year c.args.c.now c.requires.1 λ m w r.
    elim c.then-hour-gt23.branch [
      | then-hour-gt23-via-then-hour-gt23 v ↦ omega (arith, r.hour, pair-same w.hour c.in_ok-hour.ensures, v.if-hour-gt23.true)
      | then-hour-gt23-via-else-hour-gt23+then-minute-gt59 v ↦ omega (arith, r.minute, pair-same w.minute c.in_ok-minute.ensures, v.if-minute-gt59.true)
      | then-hour-gt23-via-else-hour-gt23+else-minute-gt59+then-second-gt59 v ↦ omega (arith, r.second, pair-same w.second c.in_ok-second.ensures, v.if-second-gt59.true)
    ]

pub returns : goal.returns
returns c =
    one-real c.args.year c.args.c.now c.requires.1 c.in_ok-month.ensures c.in_ok-day.ensures c.in_ok-hour.ensures
    c.in_ok-minute.ensures c.in_ok-second.ensures
    c.requires.0 c.if-month-gt12.false c.if-day-lt1.false
    (omega (arith, c.month_length.ensures, c.if-month_length-day.false)) c.if-hour-gt23.false
    c.if-minute-gt59.false c.if-second-gt59.false
