-- Laws of days and months: a day is its three parts, and a real day's parts lie in their bounds.
use mathlib.Core.Path.{◌≡◌, refl, sym, subst, ◌∙◌}
use mathlib.Core.Bool.{Bool, true, false, ◌&&◌, ◌||◌, and-eq-true_iff}
use mathlib.Core.Logic.{⊎_elim}
use Prim.Native.Nat.{ℕ, zero, suc, ◌+◌, ◌/◌, ◌%◌, ◌≤◌, ◌<◌}
use native.Mathlib.Nat.{not-suc-le-zero, le_of_suc-le-suc, eq-or-lt_of_le}
use native.Mathlib.Omega.{arith}
use lib.Dec.{leb, ltb, eqb}
use lib.ListN.{get_or-eq_default}
use borrow.Author.Tests.{ltb-true, ltb-false, leb-true, le-leb, eqb-true, eqb-false, ne_eqb}
use Rattle.calendar.specs.Days.{leap, february, month_length, real_day, year_of, month_of, day_of}
use Rattle.calendar.specs.Number.{day_on}

-- what follows from either value of a test
pub by-test : {A : Type 0} (b : Bool) → (b ≡ true → A) → (b ≡ false → A) → A
by-test true f g = f refl
by-test false f g = g refl

-- the test passes at each number below n
abbrev pub passes : (ℕ → Bool) → ℕ → Bool
passes f zero = true
passes f (suc n) = f n && passes f n

-- so it passes at any of them
pub passes_at : (f : ℕ → Bool) (n : ℕ) → passes f n ≡ true → (k : ℕ) → k < n → f k ≡ true
passes_at f zero t k h = absurd (not-suc-le-zero h)
passes_at f (suc n) t k h =
    ⊎_elim
    (λ e. subst (λ (i : ℕ). f i ≡ true) (sym e) ((and-eq-true_iff (f n) (passes f n)).0 t).0)
    (λ l. passes_at f n ((and-eq-true_iff (f n) (passes f n)).0 t).1 k l)
    (eq-or-lt_of_le (le_of_suc-le-suc h))

-- the parts of a day that is put together
module _ (y m d : ℕ) (hm : m < 100) (hd : d < 100) where
  pub year-on : year_of (day_on y m d) ≡ y
  unfolding day_on
  year-on = omega arith

  pub month-on : month_of (day_on y m d) ≡ m
  unfolding day_on
  month-on = omega arith

  pub day-on : day_of (day_on y m d) ≡ d
  unfolding day_on
  day-on = omega arith

-- but for February a month's length follows a rule
rule : ℕ → ℕ → Bool
rule y m = eqb m 0 || (eqb m 2 || eqb (month_length y m) (30 + (m + m / 8) % 2))

pub length-rule : (y m : ℕ) → 1 ≤ m → m ≤ 12 → (m ≡ 2 → ⊥) → month_length y m ≡ 30 + (m + m / 8) % 2
unfolding rule month_length
length-rule y m low high other =
    eqb-true _ _
    (simp (ne_eqb m 0 (omega arith), ne_eqb m 2 other) at (passes_at (rule y) 13 refl m (omega arith)))

pub length_two : (y m : ℕ) → m ≡ 2 → month_length y m ≡ february y
unfolding month_length
length_two y m e = rw e

-- no other month has a day
pub length_none : (y m : ℕ) → 12 < m → month_length y m ≡ 0
unfolding month_length
length_none y m h = simp (get_or-eq_default, h)

pub length-zero : (y m : ℕ) → m < 1 → month_length y m ≡ 0
unfolding month_length
length-zero y m h = let e : m ≡ 0 = omega arith in rw e

pub february-leap : (y : ℕ) → leap y ≡ true → february y ≡ 29
unfolding february
february-leap y e = rw e

pub february-common : (y : ℕ) → leap y ≡ false → february y ≡ 28
unfolding february
february-common y e = rw e

pub february-between : (y : ℕ) → (28 ≤ february y) × (february y ≤ 29)
february-between y =
    by-test (leap y) (λ e. omega (arith, february-leap y e)) (λ e. omega (arith, february-common y e))

pub length-least : (y m : ℕ) → 1 ≤ m → m ≤ 12 → 28 ≤ month_length y m
length-least y m low high =
    by-test (eqb m 2) (λ e. omega (arith, length_two y m (eqb-true m 2 e), february-between y))
    (λ e. omega (arith, length-rule y m low high (eqb-false m 2 e)))

pub length_most : (y m : ℕ) → month_length y m ≤ 31
length_most y m =
    by-test (ltb m 1) (λ e. omega (arith, length-zero y m (ltb-true m 1 e)))
    (λ e. by-test (ltb 12 m) (λ f. omega (arith, length_none y m (ltb-true 12 m f)))
    (λ f. by-test (eqb m 2) (λ g. omega (arith, length_two y m (eqb-true m 2 g), february-between y))
    (λ g. omega (arith, length-rule y m (ltb-false m 1 e) (ltb-false 12 m f) (eqb-false m 2 g)))))

-- what a real day is, in its parts
pub record Real (from to day : ℕ) : Type 0 where
  pub since : from ≤ year_of day
  pub until : year_of day ≤ to
  pub month-low : 1 ≤ month_of day
  pub month-high : month_of day ≤ 12
  pub day-low : 1 ≤ day_of day
  pub day-high : day_of day ≤ month_length (year_of day) (month_of day)

-- a month that has a day is one of the twelve
month-in : (y m : ℕ) → 1 ≤ month_length y m → (1 ≤ m) × (m ≤ 12)
month-in y m h = (
  by-test (ltb m 1) (λ e. omega (arith, length-zero y m (ltb-true m 1 e))) (λ e. ltb-false m 1 e),
  by-test (ltb 12 m) (λ e. omega (arith, length_none y m (ltb-true 12 m e))) (λ e. ltb-false 12 m e),
)

pub real : (from to day : ℕ) → real_day from to day ≡ true → Real from to day
unfolding real_day
real from to day t =
    let (since, t₁) = (and-eq-true_iff (leb from (year_of day)) _).0 t in
    let (until, t₂) = (and-eq-true_iff (leb (year_of day) to) _).0 t₁ in
    let (low, high) = (and-eq-true_iff (leb 1 (day_of day)) _).0 t₂ in
    let d₁ : 1 ≤ day_of day = leb-true _ _ low in
    let d₂ : day_of day ≤ month_length (year_of day) (month_of day) = leb-true _ _ high in
    let month : (1 ≤ month_of day) × (month_of day ≤ 12) = month-in (year_of day) (month_of day) (omega arith) in
    record {
      since = leb-true _ _ since;
      until = leb-true _ _ until;
      month-low = month.0;
      month-high = month.1;
      day-low = d₁;
      day-high = d₂;
    }

-- and back
pub real-on : (from to y m d : ℕ) → from ≤ y → y ≤ to → 1 ≤ m → m ≤ 12 → 1 ≤ d → d ≤ month_length y m
    → real_day from to (day_on y m d) ≡ true
unfolding real_day
real-on from to y m d since until low high d₁ d₂ =
    let hm : m < 100 = omega arith in
    let hd : d < 100 = omega (arith, length_most y m) in
    simp (
      year-on y m d hm hd,
      month-on y m d hm hd,
      day-on y m d hm hd,
      le-leb _ _ since,
      le-leb _ _ until,
      le-leb _ _ d₁,
      le-leb _ _ d₂,
    )

-- what breaks a bound is not real
pub not-real : (from to day : ℕ) → (Real from to day → ⊥) → real_day from to day ≡ false
not-real from to day never = by-test (real_day from to day) (λ t. absurd (never (real from to day t))) (λ f. f)

-- of a year asked for, a day is real by the length of its month
pub by_length : (from to day : ℕ) → from ≤ year_of day → year_of day ≤ to → 1 ≤ day_of day
    → real_day from to day ≡ leb (day_of day) (month_length (year_of day) (month_of day))
unfolding real_day
by_length from to day since until low = simp (le-leb _ _ since, le-leb _ _ until, le-leb _ _ low)

-- every month has its first 28 days
pub to-28 : (from to day : ℕ) → from ≤ year_of day → year_of day ≤ to → 1 ≤ month_of day → month_of day ≤ 12
    → 1 ≤ day_of day → day_of day ≤ 28 → real_day from to day ≡ true
to-28 from to day since until month-low month-high low high =
    let least = length-least (year_of day) (month_of day) month-low month-high in
    by_length from to day since until low ∙ le-leb (day_of day) (month_length (year_of day) (month_of day)) (omega arith)
