-- What the fast path tells of the octets of a time: they are digits, and their pairs are in ranges that every year has, as year
-- 1 does, which is no leap year. No public promise cites this.
use Rattle.std.specs.Prelude.{ℕ, ◌+◌, ◌*◌, ◌-◌, ◌≤◌, List, ◌≡◌, get_or}
use Rattle.calendar.specs.Days.{month_length}
use Rattle.times.specs.Pairs.{Digit}

-- the number that two digits write
abbrev pub value_of : ℕ → ℕ → ℕ
value_of a b = (a - 48) * 10 + (b - 48)

-- year, month, day and hour
pub record UsualDate (c : List ℕ) : Type 0 where
  pub year-tens : Digit (get_or c 0 0)
  pub year-ones : Digit (get_or c 1 0)
  pub month-tens : Digit (get_or c 2 0)
  pub month-ones : Digit (get_or c 3 0)
  pub day-tens : Digit (get_or c 4 0)
  pub day-ones : Digit (get_or c 5 0)
  pub hour-tens : Digit (get_or c 6 0)
  pub hour-ones : Digit (get_or c 7 0)
  pub month-low : 1 ≤ value_of (get_or c 2 0) (get_or c 3 0)
  pub month-high : value_of (get_or c 2 0) (get_or c 3 0) ≤ 12
  pub day-low : 1 ≤ value_of (get_or c 4 0) (get_or c 5 0)
  pub day-high : value_of (get_or c 4 0) (get_or c 5 0) ≤ month_length 1 (value_of (get_or c 2 0) (get_or c 3 0))
  pub hour-high : value_of (get_or c 6 0) (get_or c 7 0) ≤ 23

-- minute and second
pub record UsualClock (c : List ℕ) : Type 0 where
  pub minute-tens : Digit (get_or c 8 0)
  pub minute-ones : Digit (get_or c 9 0)
  pub second-tens : Digit (get_or c 10 0)
  pub second-ones : Digit (get_or c 11 0)
  pub minute-high : value_of (get_or c 8 0) (get_or c 9 0) ≤ 59
  pub second-high : value_of (get_or c 10 0) (get_or c 11 0) ≤ 59

-- both, and a Z
pub record UsualTime (c : List ℕ) : Type 0 where
  pub date : UsualDate c
  pub clock : UsualClock c
  pub last : get_or c 12 0 ≡ 90

-- the first three digits of a year from 2050 on
pub record Later (a b c : ℕ) : Type 0 where
  pub first : Digit a
  pub second : Digit b
  pub from : 205 ≤ value_of a b * 10 + (c - 48)
