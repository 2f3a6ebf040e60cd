-- Two octets that are digits, and the number that they write. No public promise cites this.
use Rattle.std.specs.Prelude.{ℕ, ◌+◌, ◌*◌, ◌-◌, ◌≤◌, List, ◌≡◌, length, take, drop, Option, None, MatchOption}
use Rattle.times.specs.Times.{figures, real_number, time_in}

pub record Digit (o : ℕ) : Type 0 where
  pub low : 48 ≤ o
  pub high : o ≤ 57

pub record Pair (a b r : ℕ) : Type 0 where
  pub tens : Digit a
  pub ones : Digit b
  pub value : r ≡ (a - 48) * 10 + (b - 48)

abbrev pub PairOf : ℕ → ℕ → Option ℕ → Type 0
PairOf a b o = MatchOption o (Digit a → Digit b → ⊥) (Pair a b)

-- the year of a time, after which ten digits and a Z stand
pub record Year (tag : ℕ) (c : List ℕ) (r : ℕ) : Type 0 where
  pub few : r ≤ 9999
  pub long : 11 ≤ length c
  pub is : time_in tag c ≡ real_number (figures r (take 10 (drop (length c - 11) c)))

-- what has no year is no time
abbrev pub YearOf : ℕ → List ℕ → Option ℕ → Type 0
YearOf tag c o = MatchOption o (time_in tag c ≡ None) (Year tag c)
