-- Laws of the day number: it adds up whole years and whole months, so it grows with the day, by one from each day to the next.
use mathlib.Core.Path.{◌≡◌, refl, sym, ◌∙◌, ap}
use mathlib.Core.Bool.{true}
use mathlib.Core.Logic.{⊎_elim}
use Prim.Native.Nat.{ℕ, zero, suc, ◌+◌, ◌-◌, ◌≤◌, ◌<◌}
use native.Mathlib.Nat.{le_of_suc-le-suc, eq-or-lt_of_le, le_trans, le_refl}
use native.Mathlib.Omega.{arith}
use lib.Dec.{ltb}
use borrow.Author.Tests.{ltb-true, ltb-false}
use Rattle.calendar.specs.Days.{leap, february, month_length, real_day, year_of, month_of, day_of}
use Rattle.calendar.specs.Number.{days_of_months, days_of_years, day_number, day_on, day_after}
use Rattle.calendar.proofs.Days.{by-test, year-on, month-on, day-on, Real, real, real-on}
use Rattle.calendar.proofs.Days.{length-rule, length-least, length_most}

-- what grows at each step grows over any
grows : (f : ℕ → ℕ) → ((k : ℕ) → f k ≤ f (suc k)) → (j k : ℕ) → j ≤ k → f j ≤ f k
grows f step j zero h = let e : j ≡ zero = omega arith in rw e (le_refl _)
grows f step j (suc k) h =
    ⊎_elim (λ e. rw e (le_refl _)) (λ l. le_trans (grows f step j k (le_of_suc-le-suc l)) (step k)) (eq-or-lt_of_le h)

pub months-grow : (y j k : ℕ) → j ≤ k → days_of_months y j ≤ days_of_months y k
unfolding days_of_months
months-grow y = grows (days_of_months y) (λ k. omega arith)

pub years-grow : (j k : ℕ) → j ≤ k → days_of_years j ≤ days_of_years k
unfolding days_of_years
years-grow = grows days_of_years (λ k. omega arith)

-- one month more, and one year more
pub month-more : (y m : ℕ) → 1 ≤ m → days_of_months y m ≡ days_of_months y (m - 1) + month_length y m
unfolding days_of_months
month-more y zero h = absurd (omega arith)
month-more y (suc m) h = let e : suc m - 1 ≡ m = omega arith in rw e

pub year-more : (y : ℕ) → 1950 ≤ y → days_of_years (y + 1 - 1950) ≡ days_of_years (y - 1950) + days_of_months y 12
unfolding days_of_years
year-more y h =
    let e : y + 1 - 1950 ≡ suc (y - 1950) = omega arith in
    let back : 1950 + (y - 1950) ≡ y = omega arith in
    rw (e, back)

-- the number of a day that is put together
pub number-on : (y m d : ℕ) → m < 100 → d < 100
    → day_number (day_on y m d) ≡ days_of_years (y - 1950) + days_of_months y (m - 1) + (d - 1)
unfolding day_number
number-on y m d hm hd = rw (year-on y m d hm hd, month-on y m d hm hd, day-on y m d hm hd)

all-years : days_of_years 150 ≡ 54787
unfolding days_of_years days_of_months month_length february leap
all-years = refl

module _ (day : ℕ) (r : Real 1950 2099 day) where
  -- a real day lies before the next month, and so before the next year
  pub month-ends : days_of_months (year_of day) (month_of day - 1) + (day_of day - 1) < days_of_months (year_of day) (month_of day)
  month-ends = omega (arith, month-more (year_of day) (month_of day) r.month-low, r.day-low, r.day-high)

  pub year-ends : day_number day < days_of_years (year_of day + 1 - 1950)
  unfolding day_number
  year-ends =
      omega (
        arith,
        month-ends,
        months-grow (year_of day) (month_of day) 12 r.month-high,
        year-more (year_of day) r.since,
      )

  pub number-most : day_number day ≤ 54786
  number-most =
      omega (arith, year-ends, years-grow (year_of day + 1 - 1950) 150 (omega (arith, r.until)), all-years)

-- a later real day has a greater number: it is of a later year, or of a later month of the year, or later in the month
pub later : (a b : ℕ) → Real 1950 2099 a → Real 1950 2099 b → a < b → day_number a < day_number b
unfolding day_number
later a b ra rb h =
    by-test (ltb (year_of a) (year_of b))
    (λ e.
    let y : year_of a < year_of b = ltb-true _ _ e in
    omega (arith, year-ends a ra, years-grow (year_of a + 1 - 1950) (year_of b - 1950) (omega arith)))
    (λ e.
    let y : year_of a ≡ year_of b = omega (arith, ltb-false (year_of a) (year_of b) e) in
    rw y
    (by-test (ltb (month_of a) (month_of b))
    (λ f.
    let m : month_of a < month_of b = ltb-true _ _ f in
    omega
    (arith, rw y at (month-ends a ra), months-grow (year_of b) (month_of a) (month_of b - 1) (omega arith)))
    (λ f.
    let m : month_of a ≡ month_of b = omega (arith, ltb-false (month_of a) (month_of b) f) in
    rw m (omega (arith, ra.day-low)))))

-- the day after a real day is one of three
by_after : (P : ℕ → Type 0) (day : ℕ) → Real 1950 2099 day
    → (day_of day < month_length (year_of day) (month_of day) → P (day_on (year_of day) (month_of day) (day_of day + 1)))
    → (day_of day ≡ month_length (year_of day) (month_of day) → month_of day < 12 → P (day_on (year_of day) (month_of day + 1) 1))
    → (day_of day ≡ month_length (year_of day) (month_of day) → month_of day ≡ 12 → P (day_on (year_of day + 1) 1 1))
    → P (day_after day)
unfolding day_after
by_after P day r in-month next-month next-year =
    by-test (ltb (day_of day) (month_length (year_of day) (month_of day)))
    (λ e. simp e (in-month (ltb-true _ _ e)))
    (λ e.
    let last : day_of day ≡ month_length (year_of day) (month_of day) =
    omega (arith, r, ltb-false (day_of day) (month_length (year_of day) (month_of day)) e) in
    by-test (ltb (month_of day) 12)
    (λ f. simp (e, f) (next-month last (ltb-true _ _ f)))
    (λ f. simp (e, f) (next-year last (omega (arith, r, ltb-false (month_of day) 12 f)))))

no-month : (y : ℕ) → days_of_months y 0 ≡ 0
unfolding days_of_months
no-month y = refl

-- the day after has the next number
pub after : (day : ℕ) → Real 1950 2099 day → day_number (day_after day) ≡ suc (day_number day)
unfolding day_number
after day r =
    let y : ℕ = year_of day in
    let m : ℕ = month_of day in
    let d : ℕ = day_of day in
    let whole : days_of_months y m ≡ days_of_months y (m - 1) + month_length y m = month-more y m r.month-low in
    by_after (λ n. day_number n ≡ suc (day_number day)) day r
    (λ e. number-on y m (d + 1) (omega (arith, r)) (omega (arith, length_most y m)) ∙ omega (arith, r))
    (λ e f.
    let back : m + 1 - 1 ≡ m = omega arith in
    number-on y (m + 1) 1 (omega arith) (omega arith) ∙ rw back (omega (arith, r)))
    (λ e f.
    let twelve : days_of_months y m ≡ days_of_months y 12 = ap (days_of_months y) f in
    number-on (y + 1) 1 1 (omega arith) (omega arith) ∙ omega (arith, r, no-month (y + 1), year-more y r.since))

-- the day after is a real day, but after the last
pub after-real : (day : ℕ) → Real 1950 2099 day → day < 20991231 → real_day 1950 2099 (day_after day) ≡ true
after-real day r h =
    let y : ℕ = year_of day in
    let m : ℕ = month_of day in
    let d : ℕ = day_of day in
    by_after (λ n. real_day 1950 2099 n ≡ true) day r
    (λ e. real-on 1950 2099 y m (d + 1) r.since r.until r.month-low r.month-high (omega arith) (omega arith))
    (λ e f.
    real-on 1950 2099 y (m + 1) 1 r.since r.until (omega arith) (omega arith) (omega arith)
    (omega (arith, length-least y (m + 1) (omega arith) (omega arith))))
    (λ e f.
    let long : month_length y m ≡ 31 = length-rule y m r.month-low r.month-high (omega arith) ∙ rw f in
    real-on 1950 2099 (y + 1) 1 1 (omega (arith, r)) (omega (arith, r)) (omega arith) (omega arith) (omega arith)
    (omega (arith, length-least (y + 1) 1 (omega arith) (omega arith))))

pub first-real : real_day 1950 2099 19500101 ≡ true
unfolding real_day month_length
first-real = refl

pub first-number : day_number 19500101 ≡ 0
unfolding day_number days_of_years days_of_months
first-number = refl

pub last-real : real_day 1950 2099 20991231 ≡ true
unfolding real_day month_length
last-real = refl

pub last-number : day_number 20991231 ≡ 54786
unfolding day_number days_of_years days_of_months month_length february leap
last-number = refl

-- two real days with one number are one day
pub same_number : (a b : ℕ) → Real 1950 2099 a → Real 1950 2099 b → day_number a ≡ day_number b → a ≡ b
same_number a b ra rb e =
    by-test (ltb a b) (λ l. absurd (omega (arith, later a b ra rb (ltb-true a b l))))
    (λ l. by-test (ltb b a) (λ m. absurd (omega (arith, later b a rb ra (ltb-true b a m))))
    (λ m. omega (arith, ltb-false a b l, ltb-false b a m)))

not_last : (day : ℕ) → Real 1950 2099 day → day_number day < 54786 → day < 20991231
not_last day r h =
    by-test (ltb day 20991231) (λ l. ltb-true _ _ l)
    (λ l.
    ⊎_elim (λ e. absurd (omega (arith, ap day_number e, last-number)))
    (λ m. absurd (omega (arith, later 20991231 day (real 1950 2099 20991231 last-real) r m, last-number)))
    (eq-or-lt_of_le (ltb-false day 20991231 l)))

-- the days in turn, from the first
nth : ℕ → ℕ
nth zero = 19500101
nth (suc n) = day_after (nth n)

nth-day : (n : ℕ) → n ≤ 54786 → (real_day 1950 2099 (nth n) ≡ true) × (day_number (nth n) ≡ n)
unfolding nth
nth-day zero h = (first-real, first-number)
nth-day (suc n) h =
    let (t, e) = nth-day n (omega arith) in
    let r : Real 1950 2099 (nth n) = real 1950 2099 (nth n) t in
    (after-real (nth n) r (not_last (nth n) r (omega (arith, e))), after (nth n) r ∙ ap suc e)

-- no second numbering from 0 rises by one from each day to the next
module _
    (f : ℕ → ℕ)
    (zeroth : f 19500101 ≡ 0)
    (step : (day : ℕ) → real_day 1950 2099 day ≡ true → day < 20991231 → f (day_after day) ≡ suc (f day)) where
  counted : (n : ℕ) → n ≤ 54786 → f (nth n) ≡ n
  unfolding nth
  counted zero h = zeroth
  counted (suc n) h =
      let (t, e) = nth-day n (omega arith) in
      step (nth n) t (not_last (nth n) (real 1950 2099 (nth n) t) (omega (arith, e))) ∙ ap suc (counted n (omega arith))

  pub no_other : (day : ℕ) → Real 1950 2099 day → f day ≡ day_number day
  no_other day r =
      let most : day_number day ≤ 54786 = number-most day r in
      let (t, e) = nth-day (day_number day) most in
      ap f (sym (same_number (nth (day_number day)) day (real 1950 2099 _ t) r e)) ∙ counted (day_number day) most
