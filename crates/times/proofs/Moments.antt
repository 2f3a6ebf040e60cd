-- The moment that ten digits write after a year: its parts are the year and the five pairs, so it is real just if they are in their ranges.
use Rattle.std.specs.Prelude.{Some, None}
use Prim.Native.Nat.{ℕ, ◌+◌, ◌*◌, ◌/◌, ◌%◌, ◌≤◌}
use mathlib.Core.Bool.{Bool, true, false, cond, and-eq-true_iff}
use mathlib.Core.List.{List}
use mathlib.Core.Path.{◌≡◌, refl, ap, sym, ◌∙◌}
use native.Mathlib.Omega.{arith}
use borrow.Author.Tests.{le-leb, leb-true}
use lib.Dec.{leb}
use lib.ListN.{length, get_or, drop, drop_of_length-le}
use Rattle.calendar.specs.Days.{month_length, real_day, real_moment, year_of, month_of, day_of}
use Rattle.calendar.proofs.Days.{Real, real, length_most}
use Rattle.times.specs.Pairs.{Pair}
use Rattle.times.specs.Times.{Figures, Number, Wordy, figures, real_time, real_number}
use Rattle.times.proofs.Pairs.{drop-two, pair-few, pair_read, pair-was}

abbrev pub moment_on : ℕ → ℕ → ℕ → ℕ → ℕ → ℕ → ℕ
moment_on year month day hour minute second = ((((year * 100 + month) * 100 + day) * 100 + hour) * 100 + minute) * 100 + second

-- the parts of a moment that is put together
module _
    (year month day hour minute second : ℕ)
    (months : month ≤ 99)
    (days : day ≤ 99)
    (hours : hour ≤ 99)
    (minutes : minute ≤ 99)
    (seconds : second ≤ 99) where
  year-on : year_of (moment_on year month day hour minute second / 1000000) ≡ year
  year-on = omega arith

  month-on : month_of (moment_on year month day hour minute second / 1000000) ≡ month
  month-on = omega arith

  day-on : day_of (moment_on year month day hour minute second / 1000000) ≡ day
  day-on = omega arith

  hour-on : moment_on year month day hour minute second / 10000 % 100 ≡ hour
  hour-on = omega arith

  minute-on : moment_on year month day hour minute second / 100 % 100 ≡ minute
  minute-on = omega arith

  second-on : moment_on year month day hour minute second % 100 ≡ second
  second-on = omega arith

-- the same parts after another year
moment-again : (k year month day hour minute second : ℕ) → month ≤ 99 → day ≤ 99 → hour ≤ 99 → minute ≤ 99 → second ≤ 99
    → moment_on k month day hour minute second ≡ k * 10000000000 + moment_on year month day hour minute second % 10000000000
moment-again k year month day hour minute second mo d h mi s = omega arith

-- a real moment, part by part
pub record RealAt (m : ℕ) : Type 0 where
  pub date : Real 0 9999 (m / 1000000)
  pub hour : m / 10000 % 100 ≤ 23
  pub minute : m / 100 % 100 ≤ 59
  pub second : m % 100 ≤ 59

real-at : (m : ℕ) → real_moment 0 9999 m ≡ true → RealAt m
unfolding real_moment
real-at m t =
    let (date, t₁) = (and-eq-true_iff (real_day 0 9999 (m / 1000000)) _).0 t in
    let (hour, t₂) = (and-eq-true_iff (leb (m / 10000 % 100) 23) _).0 t₁ in
    let (minute, second) = (and-eq-true_iff (leb (m / 100 % 100) 59) _).0 t₂ in
    record {
      date = real 0 9999 (m / 1000000) date;
      hour = leb-true _ _ hour;
      minute = leb-true _ _ minute;
      second = leb-true _ _ second;
    }

module _ (year : ℕ) (c : List ℕ) (ten : length c ≡ 10) where
  -- the parts of a number that is written so
  pub record Written (m : ℕ) : Type 0 where
    pub year-is : year_of (m / 1000000) ≡ year
    pub month : Pair (get_or c 0 0) (get_or c 1 0) (month_of (m / 1000000))
    pub day : Pair (get_or c 2 0) (get_or c 3 0) (day_of (m / 1000000))
    pub hour : Pair (get_or c 4 0) (get_or c 5 0) (m / 10000 % 100)
    pub minute : Pair (get_or c 6 0) (get_or c 7 0) (m / 100 % 100)
    pub second : Pair (get_or c 8 0) (get_or c 9 0) (m % 100)
    -- the number that is written so after any year
    pub anew : (k : ℕ) → figures k c ≡ Number (k * 10000000000 + m % 10000000000)

  figures-end : (n : ℕ) → figures n (drop 10 c) ≡ Number n
  unfolding figures
  figures-end n = let all : length c ≤ 10 = omega arith in rw (drop_of_length-le c all)

  -- the octets from i on begin with a pair that writes r
  record Starts (i r : ℕ) : Type 0 where
    pub told : Pair (get_or c i 0) (get_or c (i + 1) 0) r
    pub goes : (k : ℕ) → figures k (drop i c) ≡ figures (k * 100 + r) (drop (i + 2) c)

  begins : (i n m : ℕ) → i + 2 ≤ length c → figures n (drop i c) ≡ Number m → (r : ℕ) × Starts i r × (figures (n * 100 + r) (drop (i + 2) c) ≡ Number m)
  begins i n m h e =
      let w = pair-was _ _ _ n m (ap (figures n) (sym (drop-two c i h)) ∙ e) in
      let goes : (k : ℕ) → figures k (drop i c) ≡ figures (k * 100 + w.read) (drop (i + 2) c) = λ k. ap (figures k) (drop-two c i h) ∙ w.goes_on k in
      (w.read, record { told = w.told; goes = goes }, sym (goes n) ∙ e)

  figures-ended : (n m : ℕ) → figures n (drop 10 c) ≡ Number m → m ≡ n
  figures-ended n m e = let end : figures n (drop 10 c) ≡ Number n = figures-end n in cc

  -- five pairs are the whole of it
  module _ {r1 r2 r3 r4 r5 : ℕ} (p1 : Starts 0 r1) (p2 : Starts 2 r2) (p3 : Starts 4 r3) (p4 : Starts 6 r4) (p5 : Starts 8 r5) where
    goes-all : (k : ℕ) → figures k c ≡ Number (moment_on k r1 r2 r3 r4 r5)
    goes-all k = p1.goes k ∙ p2.goes _ ∙ p3.goes _ ∙ p4.goes _ ∙ p5.goes _ ∙ figures-end _

    again : (k : ℕ) → moment_on k r1 r2 r3 r4 r5 ≡ k * 10000000000 + moment_on year r1 r2 r3 r4 r5 % 10000000000
    again k = moment-again k year r1 r2 r3 r4 r5 (pair-few p1.told) (pair-few p2.told) (pair-few p3.told) (pair-few p4.told) (pair-few p5.told)

    parts-written : Written (moment_on year r1 r2 r3 r4 r5)
    parts-written =
        let f1 = pair-few p1.told in
        let f2 = pair-few p2.told in
        let f3 = pair-few p3.told in
        let f4 = pair-few p4.told in
        let f5 = pair-few p5.told in
        record {
          year-is = year-on year r1 r2 r3 r4 r5 f1 f2 f3 f4 f5;
          month = rw (month-on year r1 r2 r3 r4 r5 f1 f2 f3 f4 f5) p1.told;
          day = rw (day-on year r1 r2 r3 r4 r5 f1 f2 f3 f4 f5) p2.told;
          hour = rw (hour-on year r1 r2 r3 r4 r5 f1 f2 f3 f4 f5) p3.told;
          minute = rw (minute-on year r1 r2 r3 r4 r5 f1 f2 f3 f4 f5) p4.told;
          second = rw (second-on year r1 r2 r3 r4 r5 f1 f2 f3 f4 f5) p5.told;
          anew = λ k. goes-all k ∙ ap Number (again k);
        }

    all-written : (m : ℕ) → figures (moment_on year r1 r2 r3 r4 r5) (drop 10 c) ≡ Number m → Written m
    all-written m e = rw (figures-ended _ m e) parts-written

  pub written : (m : ℕ) → figures year c ≡ Number m → Written m
  written m e = first (begins 0 year m (omega arith) e)
    where
      fifth : {r1 r2 r3 r4 n : ℕ} → Starts 0 r1 → Starts 2 r2 → Starts 4 r3 → Starts 6 r4 → n ≡ (((year * 100 + r1) * 100 + r2) * 100 + r3) * 100 + r4
          → (r : ℕ) × Starts 8 r × (figures (n * 100 + r) (drop 10 c) ≡ Number m) → Written m
      fifth p1 p2 p3 p4 is (r5, p5, e5) = all-written p1 p2 p3 p4 p5 m (rw is at e5)

      fourth : {r1 r2 r3 n : ℕ} → Starts 0 r1 → Starts 2 r2 → Starts 4 r3 → n ≡ ((year * 100 + r1) * 100 + r2) * 100 + r3
          → (r : ℕ) × Starts 6 r × (figures (n * 100 + r) (drop 8 c) ≡ Number m) → Written m
      fourth p1 p2 p3 is (r4, p4, e4) = fifth p1 p2 p3 p4 (ap (λ (k : ℕ). k * 100 + r4) is) (begins 8 _ m (omega arith) e4)

      third : {r1 r2 n : ℕ} → Starts 0 r1 → Starts 2 r2 → n ≡ (year * 100 + r1) * 100 + r2
          → (r : ℕ) × Starts 4 r × (figures (n * 100 + r) (drop 6 c) ≡ Number m) → Written m
      third p1 p2 is (r3, p3, e3) = fourth p1 p2 p3 (ap (λ (k : ℕ). k * 100 + r3) is) (begins 6 _ m (omega arith) e3)

      second : {r1 n : ℕ} → Starts 0 r1 → n ≡ year * 100 + r1
          → (r : ℕ) × Starts 2 r × (figures (n * 100 + r) (drop 4 c) ≡ Number m) → Written m
      second p1 is (r2, p2, e2) = third p1 p2 (ap (λ (k : ℕ). k * 100 + r2) is) (begins 4 _ m (omega arith) e2)

      first : (r : ℕ) × Starts 0 r × (figures (year * 100 + r) (drop 2 c) ≡ Number m) → Written m
      first (r1, p1, e1) = second p1 refl (begins 2 _ m (omega arith) e1)

  -- what no real moment can be is no time
  pub none-real : ((m : ℕ) → Written m → RealAt m → ⊥) → None ≡ real_number (figures year c)
  unfolding real_number real_time
  none-real never = go (figures year c) refl
    where
      go : (f : Figures) → figures year c ≡ f → None ≡ real_number f
      go Wordy e = refl
      go (Number m) e = test (real_moment 0 9999 m) refl
        where
          test : (t : Bool) → real_moment 0 9999 m ≡ t → None ≡ cond t (Some m) None
          test true g = absurd (never m (written m e) (real-at m g))
          test false g = refl

  -- pairs in their ranges write a real moment
  module _
      {month day hour minute second : ℕ}
      (month-told : Pair (get_or c 0 0) (get_or c 1 0) month)
      (day-told : Pair (get_or c 2 0) (get_or c 3 0) day)
      (hour-told : Pair (get_or c 4 0) (get_or c 5 0) hour)
      (minute-told : Pair (get_or c 6 0) (get_or c 7 0) minute)
      (second-told : Pair (get_or c 8 0) (get_or c 9 0) second)
      (years : year ≤ 9999)
      (months : month ≤ 12)
      (since : 1 ≤ day)
      (until : day ≤ month_length year month)
      (hours : hour ≤ 23)
      (minutes : minute ≤ 59)
      (seconds : second ≤ 59) where
    number : figures year c ≡ Number (moment_on year month day hour minute second)
    number =
        let n1 = year * 100 + month in
        let n2 = n1 * 100 + day in
        let n3 = n2 * 100 + hour in
        let n4 = n3 * 100 + minute in
        let n5 = n4 * 100 + second in
        ap (figures year) (drop-two c 0 (omega arith)) ∙ pair_read _ _ _ year month-told
        ∙ ap (figures n1) (drop-two c 2 (omega arith)) ∙ pair_read _ _ _ n1 day-told
        ∙ ap (figures n2) (drop-two c 4 (omega arith)) ∙ pair_read _ _ _ n2 hour-told
        ∙ ap (figures n3) (drop-two c 6 (omega arith)) ∙ pair_read _ _ _ n3 minute-told
        ∙ ap (figures n4) (drop-two c 8 (omega arith)) ∙ pair_read _ _ _ n4 second-told
        ∙ figures-end n5

    in-range : real_moment 0 9999 (moment_on year month day hour minute second) ≡ true
    unfolding real_moment real_day
    in-range =
        let mo : month ≤ 99 = omega arith in
        let d : day ≤ 99 = omega (arith, length_most year month) in
        let h : hour ≤ 99 = omega arith in
        let mi : minute ≤ 99 = omega arith in
        let s : second ≤ 99 = omega arith in
        simp (
          year-on year month day hour minute second mo d h mi s,
          month-on year month day hour minute second mo d h mi s,
          day-on year month day hour minute second mo d h mi s,
          hour-on year month day hour minute second mo d h mi s,
          minute-on year month day hour minute second mo d h mi s,
          second-on year month day hour minute second mo d h mi s,
          le-leb 0 year (omega arith),
          le-leb _ _ years,
          le-leb _ _ since,
          le-leb _ _ until,
          le-leb _ _ hours,
          le-leb _ _ minutes,
          le-leb _ _ seconds,
        )

    pub one-real : Some (moment_on year month day hour minute second) ≡ real_number (figures year c)
    unfolding real_number real_time
    one-real = rw (number, in-range)
