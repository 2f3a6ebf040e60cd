-- What the fast path for a time tells: digits in their ranges are a time.
use Rattle.std.specs.Prelude.{Option, Some}
use Prim.Native.Nat.{ℕ, zero, suc, ◌+◌, ◌*◌, ◌-◌, ◌/◌, ◌%◌, ◌<◌, ◌≤◌}
use mathlib.Core.Bool.{true, false}
use mathlib.Core.List.{List, [], ◌∷◌}
use mathlib.Core.Logic.{◌⊎◌, ⊎_elim}
use mathlib.Core.Path.{◌≡◌, refl, ap, ap₂, sym, ◌∙◌}
use native.Mathlib.Omega.{arith}
use borrow.Author.Tests.{eq-eqb, eqb-true, eqb-false, ltb-true, ltb-false, leb-true, leb-false}
use lib.Dec.{eqb, ltb, leb}
use lib.Bits.{bit_and}
use lib.ListN.{length, get_or, take, drop}
use lib.Seq.{get_or-take, get_or-drop}
use Rattle.times.specs.Pairs.{Digit, Pair}
use Rattle.times.specs.Times.{figures, real_number, in_century, zulu, time_in}
use Rattle.times.proofs.Moments.{one-real}
use Rattle.times.proofs.Years.{short-read, long-read, in-two-thousands, in-nineteen-hundreds, late-enough, ten-left}
use Rattle.calendar.specs.Days.{leap, month_length}
use Rattle.calendar.proofs.Days.{by-test, length_two, length-rule, length_none, february-leap, february-common}
use Rattle.crl.specs.Entries.{is_time}
use Rattle.crl.specs.FastTimes.{value_of, UsualDate, UsualClock, UsualTime, Later}
use Rattle.crl.proofs.Words.{word, Each, ands, upper, below, plus, word-plus, word-most, take_off, word-off, word-pairs, word-tail, word-third, word-fifth, word-seventh}

pub never : {A : Type 0} → false ≡ true → A
never e = absurd (let z : ◌≡◌ {A = ℕ} 0 1 = cc in omega arith)

-- eight octets with an upper half of 3, by themselves and with 6 added
module _ (a b c d e f g h : ℕ) where
  abbrev pub eight : List ℕ
  eight = a ∷ b ∷ c ∷ d ∷ e ∷ f ∷ g ∷ h ∷ []

  pub made : (((d * 256 + c) * 256 + b) * 256 + a) + (((h * 256 + g) * 256 + f) * 256 + e) * 0x100000000 ≡ word eight
  unfolding word
  made = omega arith

abbrev pub Upper : ℕ → Type 0
Upper o = (48 ≤ o) × (o ≤ 63)

module _ (a b c d e f g h : ℕ) (octets : Each (λ o. o < 256) (eight a b c d e f g h)) where
  pub uppers : bit_and (word (eight a b c d e f g h)) 0xf0f0f0f0f0f0f0f0 ≡ 0x3030303030303030 → Each Upper (eight a b c d e f g h)
  unfolding word
  uppers is =
      let (a1, (b1, (c1, (d1, (e1, (f1, (g1, (h1, end)))))))) = ands (eight a b c d e f g h) (eight 240 240 240 240 240 240 240 240) (eight 48 48 48 48 48 48 48 48) octets refl refl is in
      let (a2, (b2, (c2, (d2, (e2, (f2, (g2, (h2, last)))))))) = octets in
      (upper a a2 a1, (upper b b2 b1, (upper c c2 c1, (upper d d2 d1, (upper e e2 e1, (upper f f2 f1, (upper g g2 g1, (upper h h2 h1, tt))))))))

digit : {o : ℕ} → Upper o → Upper (o + 6) → Digit o
digit u v = record { low = u.0; high = omega (arith, v.1) }

module _ (a b c d e f g h : ℕ) (u : Each Upper (eight a b c d e f g h)) where
  pub digits : bit_and (word (eight a b c d e f g h) + 0x0606060606060606) 0xf0f0f0f0f0f0f0f0 ≡ 0x3030303030303030 → Each Digit (eight a b c d e f g h)
  unfolding word
  digits is =
      let (a1, (b1, (c1, (d1, (e1, (f1, (g1, (h1, end)))))))) = u in
      let small : Each (λ o. o < 256) (eight (a + 6) (b + 6) (c + 6) (d + 6) (e + 6) (f + 6) (g + 6) (h + 6)) =
      (omega (arith, a1.1), (omega (arith, b1.1), (omega (arith, c1.1), (omega (arith, d1.1), (omega (arith, e1.1), (omega (arith, f1.1), (omega (arith, g1.1), (omega (arith, h1.1), tt)))))))) in
      let (a2, (b2, (c2, (d2, (e2, (f2, (g2, (h2, last)))))))) = uppers (a + 6) (b + 6) (c + 6) (d + 6) (e + 6) (f + 6) (g + 6) (h + 6) small
      (ap (λ (n : ℕ). bit_and n 0xf0f0f0f0f0f0f0f0) (word-plus (eight a b c d e f g h) (eight 6 6 6 6 6 6 6 6)) ∙ is) in
      (digit a1 a2, (digit b1 b2, (digit c1 c2, (digit d1 d2, (digit e1 e2, (digit f1 f2, (digit g1 g2, (digit h1 h2, tt))))))))

  pub eight-most : word (eight a b c d e f g h) ≤ 0x3f3f3f3f3f3f3f3f
  eight-most =
      let (a1, (b1, (c1, (d1, (e1, (f1, (g1, (h1, end)))))))) = u in
      word-most 63 (eight a b c d e f g h) (a1.1, (b1.1, (c1.1, (d1.1, (e1.1, (f1.1, (g1.1, (h1.1, tt))))))))

  pub eight-least : 0x3030303030303030 ≤ word (eight a b c d e f g h)
  eight-least =
      let (a1, (b1, (c1, (d1, (e1, (f1, (g1, (h1, end)))))))) = u in
      let rest = word-off 48 (eight a b c d e f g h) (a1.0, (b1.0, (c1.0, (d1.0, (e1.0, (f1.0, (g1.0, (h1.0, tt)))))))) in
      omega (arith, rest)

-- eight pairs, of which the third is a month, the fifth a day and the seventh an hour
module _ (v0 v1 v2 v3 v4 v5 v6 v7 : ℕ) (few : Each (λ o. o ≤ 99) (eight v0 v1 v2 v3 v4 v5 v6 v7)) where
  pub ranged : bit_and (word (eight v0 v1 v2 v3 v4 v5 v6 v7) + 0x0068006300730000) 0x0080008000800080 ≡ 0 → (v2 ≤ 12) × (v4 ≤ 28) × (v6 ≤ 23)
  unfolding word
  ranged is =
      let (w0, (w1, (w2, (w3, (w4, (w5, (w6, (w7, end)))))))) = few in
      let small : Each (λ o. o < 256) (plus (eight v0 v1 v2 v3 v4 v5 v6 v7) (eight 0 0 115 0 99 0 104 0)) = (omega (arith, w0), (omega (arith, w1), (omega (arith, w2), (omega (arith, w3), (omega (arith, w4), (omega (arith, w5), (omega (arith, w6), (omega (arith, w7), tt)))))))) in
      let (x0, (x1, (x2, (x3, (x4, (x5, (x6, (x7, last)))))))) = ands (plus (eight v0 v1 v2 v3 v4 v5 v6 v7) (eight 0 0 115 0 99 0 104 0)) (eight 128 0 128 0 128 0 128 0) (eight 0 0 0 0 0 0 0 0) small refl refl
      (ap (λ (n : ℕ). bit_and n 0x0080008000800080) (word-plus (eight v0 v1 v2 v3 v4 v5 v6 v7) (eight 0 0 115 0 99 0 104 0)) ∙ is) in
      let month : v2 + 115 < 128 = below (v2 + 115) (omega (arith, w2)) x2 in
      let day : v4 + 99 < 128 = below (v4 + 99) (omega (arith, w4)) x4 in
      let hour : v6 + 104 < 128 = below (v6 + 104) (omega (arith, w6)) x6 in
      (omega (arith, month), omega (arith, day), omega (arith, hour))

  pub third : word (eight v0 v1 v2 v3 v4 v5 v6 v7) / 0x10000 % 256 ≡ v2
  third =
      let (w0, (w1, (w2, (w3, (w4, (w5, (w6, (w7, end)))))))) = few in
      word-third v0 v1 v2 _ (omega (arith, w0)) (omega (arith, w1)) (omega (arith, w2))

  pub fifth : word (eight v0 v1 v2 v3 v4 v5 v6 v7) / 0x100000000 % 256 ≡ v4
  fifth =
      let (w0, (w1, (w2, (w3, (w4, (w5, (w6, (w7, end)))))))) = few in
      word-fifth v0 v1 v2 v3 v4 _ (omega (arith, w0)) (omega (arith, w1)) (omega (arith, w2)) (omega (arith, w3)) (omega (arith, w4))

  pub seventh : word (eight v0 v1 v2 v3 v4 v5 v6 v7) / 0x1000000000000 % 256 ≡ v6
  seventh =
      let (w0, (w1, (w2, (w3, (w4, (w5, (w6, (w7, end)))))))) = few in
      word-seventh v0 v1 v2 v3 v4 v5 v6 _ (omega (arith, w0)) (omega (arith, w1)) (omega (arith, w2)) (omega (arith, w3)) (omega (arith, w4)) (omega (arith, w5)) (omega (arith, w6))

-- digits and the pairs that are made of them
module _ (a b c d e f g h : ℕ) (ds : Each Digit (eight a b c d e f g h)) where
  abbrev pairs : List ℕ
  pairs = eight (value_of a b) (value_of b c) (value_of c d) (value_of d e) (value_of e f) (value_of f g) (value_of g h) ((h - 48) * 10)

  pairs-few : Each (λ o. o ≤ 99) pairs
  pairs-few =
      let (a1, (b1, (c1, (d1, (e1, (f1, (g1, (h1, end)))))))) = ds in
      (omega (arith, a1.high, b1.high), (omega (arith, b1.high, c1.high), (omega (arith, c1.high, d1.high), (omega (arith, d1.high, e1.high), (omega (arith, e1.high, f1.high), (omega (arith, f1.high, g1.high), (omega (arith, g1.high, h1.high), (omega (arith, h1.high), tt))))))))

  pairs_made : (n : ℕ) → n ≡ word (eight a b c d e f g h) → (n - 0x3030303030303030) * 10 + (n - 0x3030303030303030) / 256 ≡ word pairs
  pairs_made n is =
      let (a1, (b1, (c1, (d1, (e1, (f1, (g1, (h1, end)))))))) = ds in
      let rest = word-off 48 (eight a b c d e f g h) (a1.low, (b1.low, (c1.low, (d1.low, (e1.low, (f1.low, (g1.low, (h1.low, tt)))))))) in
      let off : n - 0x3030303030303030 ≡ word (take_off 48 (eight a b c d e f g h)) = omega (arith, is, rest) in
      let tail = word-tail (a - 48) (take_off 48 (b ∷ c ∷ d ∷ e ∷ f ∷ g ∷ h ∷ [])) (omega (arith, a1.high)) in
      rw (off, tail) (word-pairs (a - 48) (take_off 48 (b ∷ c ∷ d ∷ e ∷ f ∷ g ∷ h ∷ [])))

pos : (n : ℕ) → (n ≡ 0 → ⊥) → 1 ≤ n
pos zero h = absurd (h refl)
pos (suc n) h = omega arith

month-least : (y m : ℕ) → 1 ≤ m → m ≤ 12 → 28 ≤ month_length y m
month-least y m low high =
    by-test (eqb m 2)
    (λ g. by-test (leap y) (λ e. omega (arith, length_two y m (eqb-true m 2 g), february-leap y e)) (λ e. omega (arith, length_two y m (eqb-true m 2 g), february-common y e)))
    (λ g. omega (arith, length-rule y m low high (eqb-false m 2 g)))

-- year 1 is no leap year, so another has no fewer days
common-least : (y m : ℕ) → 1 ≤ m → m ≤ 12 → month_length 1 m ≤ month_length y m
unfolding leap
common-least y m low high =
    by-test (eqb m 2)
    (λ g. omega (arith, month-least y m low high, length_two 1 m (eqb-true m 2 g), february-common 1 refl))
    (λ g. omega (arith, length-rule y m low high (eqb-false m 2 g), length-rule 1 m low high (eqb-false m 2 g)))

-- month, day and hour in their ranges
abbrev Ranged : ℕ → ℕ → ℕ → Type 0
Ranged month day hour = (month ≤ 12) × (day ≤ month_length 1 month) × (hour ≤ 23)

-- by the bits, with a day to 28, or each by itself
by_bits : {month day hour : ℕ} → 1 ≤ month → (month ≤ 12) × (day ≤ 28) × (hour ≤ 23) → Ranged month day hour
by_bits {month} low (m, d, h) = (m, omega (arith, d, month-least 1 month low m), h)

by_length : {month day hour : ℕ} → 1 ≤ day → (day ≤ month_length 1 month) × (hour ≤ 23) → Ranged month day hour
by_length {month} low (d, h) =
    by-test (leb month 12) (λ g. (leb-true month 12 g, d, h)) (λ g. absurd (omega (arith, low, d, length_none 1 month (leb-false month 12 g))))

-- what is tested of the pairs: the bits, or each by itself
abbrev pub HeldTo : ℕ → Type 0
HeldTo p =
    (bit_and (p + 0x0068006300730000) 0x0080008000800080 ≡ 0)
    ⊎ ((p / 0x100000000 % 256 ≤ month_length 1 (p / 0x10000 % 256)) × (p / 0x1000000000000 % 256 ≤ 23))

abbrev pub date_of : List ℕ → List ℕ
date_of c = eight (get_or c 0 0) (get_or c 1 0) (get_or c 2 0) (get_or c 3 0) (get_or c 4 0) (get_or c 5 0) (get_or c 6 0) (get_or c 7 0)

module _
    (c : List ℕ) (ds : Each Digit (date_of c)) (n p : ℕ) (is : n ≡ word (date_of c))
    (made-so : p ≡ (n - 0x3030303030303030) * 10 + (n - 0x3030303030303030) / 256) where
  pub usual-date : HeldTo p → (p / 0x10000 % 256 ≡ 0 → ⊥) → (p / 0x100000000 % 256 ≡ 0 → ⊥) → UsualDate c
  usual-date held month day =
      let few = pairs-few _ _ _ _ _ _ _ _ ds in
      let word-is = made-so ∙ pairs_made _ _ _ _ _ _ _ _ ds n is in
      let third-is = ap (λ (k : ℕ). k / 0x10000 % 256) word-is ∙ third _ _ _ _ _ _ _ _ few in
      let fifth-is = ap (λ (k : ℕ). k / 0x100000000 % 256) word-is ∙ fifth _ _ _ _ _ _ _ _ few in
      let seventh-is = ap (λ (k : ℕ). k / 0x1000000000000 % 256) word-is ∙ seventh _ _ _ _ _ _ _ _ few in
      let month-low = pos _ (λ z. month (third-is ∙ z)) in
      let day-low = pos _ (λ z. day (fifth-is ∙ z)) in
      let (mo, d, h) = ⊎_elim (λ bits. by_bits month-low (ranged _ _ _ _ _ _ _ _ few (rw word-is at bits))) (λ late. by_length day-low (rw (third-is, fifth-is, seventh-is) at late)) held in
      let (a1, (b1, (c1, (d1, (e1, (f1, (g1, (h1, end)))))))) = ds in
      record {
        year-tens = a1;
        year-ones = b1;
        month-tens = c1;
        month-ones = d1;
        day-tens = e1;
        day-ones = f1;
        hour-tens = g1;
        hour-ones = h1;
        month-low = month-low;
        month-high = mo;
        day-low = day-low;
        day-high = d;
        hour-high = h;
      }

-- the date, test by test
module _
    (c : List ℕ) (octet : (i : ℕ) → get_or c i 0 < 256) {x y : ℕ}
    (front : x ≡ ((get_or c 3 0 * 256 + get_or c 2 0) * 256 + get_or c 1 0) * 256 + get_or c 0 0)
    (back : y ≡ ((get_or c 7 0 * 256 + get_or c 6 0) * 256 + get_or c 5 0) * 256 + get_or c 4 0) where
  date-is : x + y * 0x100000000 ≡ word (date_of c)
  date-is = ap₂ (λ (n m : ℕ). n + m * 0x100000000) front back ∙ made _ _ _ _ _ _ _ _

  module _ (high : bit_and (x + y * 0x100000000) 0xf0f0f0f0f0f0f0f0 ≡ 0x3030303030303030) where
    date-uppers : Each Upper (date_of c)
    date-uppers = uppers _ _ _ _ _ _ _ _ (octet 0, (octet 1, (octet 2, (octet 3, (octet 4, (octet 5, (octet 6, (octet 7, tt)))))))) (rw date-is at high)

    pub date-most : x + y * 0x100000000 ≤ 0x3f3f3f3f3f3f3f3f
    date-most = omega (arith, date-is, eight-most _ _ _ _ _ _ _ _ date-uppers)

    pub date-least : 0x3030303030303030 ≤ x + y * 0x100000000
    date-least = omega (arith, date-is, eight-least _ _ _ _ _ _ _ _ date-uppers)

    pub date-told : {p : ℕ} → bit_and (x + y * 0x100000000 + 0x0606060606060606) 0xf0f0f0f0f0f0f0f0 ≡ 0x3030303030303030
        → p ≡ (x + y * 0x100000000 - 0x3030303030303030) * 10 + (x + y * 0x100000000 - 0x3030303030303030) / 256
        → HeldTo p → (p / 0x10000 % 256 ≡ 0 → ⊥) → (p / 0x100000000 % 256 ≡ 0 → ⊥) → UsualDate c
    date-told more p-is = usual-date c (digits _ _ _ _ _ _ _ _ date-uppers (rw date-is at more)) _ _ date-is p-is

-- the four octets of minute and second
abbrev pub clock_of : List ℕ → List ℕ
clock_of c = get_or c 8 0 ∷ get_or c 9 0 ∷ get_or c 10 0 ∷ get_or c 11 0 ∷ []

module _ (a b c d : ℕ) (octets : Each (λ o. o < 256) (a ∷ b ∷ c ∷ d ∷ [])) where
  pub four-uppers : bit_and (word (a ∷ b ∷ c ∷ d ∷ [])) 0xf0f0f0f0 ≡ 0x30303030 → Each Upper (a ∷ b ∷ c ∷ d ∷ [])
  unfolding word
  four-uppers is =
      let (a1, (b1, (c1, (d1, end)))) = ands (a ∷ b ∷ c ∷ d ∷ []) (240 ∷ 240 ∷ 240 ∷ 240 ∷ []) (48 ∷ 48 ∷ 48 ∷ 48 ∷ []) octets refl refl is in
      let (a2, (b2, (c2, (d2, last)))) = octets in
      (upper a a2 a1, (upper b b2 b1, (upper c c2 c1, (upper d d2 d1, tt))))

module _ (c : List ℕ) (u : Each Upper (clock_of c)) where
  pub usual-clock : (n : ℕ) → n ≡ word (clock_of c) → bit_and (n + 0x060a060a) 0xf0f0f0f0 ≡ 0x30303030 → UsualClock c
  unfolding word
  usual-clock n is bits =
      let (a1, (b1, (c1, (d1, end)))) = u in
      let small : Each (λ o. o < 256) (plus (clock_of c) (10 ∷ 6 ∷ 10 ∷ 6 ∷ [])) = (omega (arith, a1.1), (omega (arith, b1.1), (omega (arith, c1.1), (omega (arith, d1.1), tt)))) in
      let (a2, (b2, (c2, (d2, last)))) = four-uppers _ _ _ _ small
      (ap (λ (k : ℕ). bit_and k 0xf0f0f0f0) (word-plus (clock_of c) (10 ∷ 6 ∷ 10 ∷ 6 ∷ []) ∙ ap (λ (k : ℕ). k + 0x060a060a) (sym is)) ∙ bits) in
      record {
        minute-tens = record { low = a1.0; high = omega (arith, a2.1) };
        minute-ones = digit b1 b2;
        second-tens = record { low = c1.0; high = omega (arith, c2.1) };
        second-ones = digit d1 d2;
        minute-high = omega (arith, a2.1, b2.1);
        second-high = omega (arith, c2.1, d2.1);
      }

pair-told : (a b : ℕ) → Digit a → Digit b → Pair a b (value_of a b)
pair-told a b da db = record { tens = da; ones = db; value = refl }

real-time : {t : Option ℕ} {m : ℕ} → Some m ≡ t → is_time t ≡ true
unfolding is_time
real-time e = rw (← e) refl

-- ten digits after a year
module _
    {c : List ℕ} (u : UsualTime c) (ten : List ℕ) (long : length ten ≡ 10)
    (at-ten : (i : ℕ) → i < 10 → get_or ten i 0 ≡ get_or c (2 + i) 0) where
  told : (i j : ℕ) → i < 10 → j < 10 → Digit (get_or c (2 + i) 0) → Digit (get_or c (2 + j) 0) → Pair (get_or ten i 0) (get_or ten j 0) (value_of (get_or c (2 + i) 0) (get_or c (2 + j) 0))
  told i j hi hj di dj = rw (at-ten i hi, at-ten j hj) (pair-told _ _ di dj)

  any-year : (year : ℕ) → year ≤ 9999 → is_time (real_number (figures year ten)) ≡ true
  any-year year few =
      let date = u.date in
      let clock = u.clock in
      real-time
      (one-real year ten long
      (told 0 1 (omega arith) (omega arith) date.month-tens date.month-ones)
      (told 2 3 (omega arith) (omega arith) date.day-tens date.day-ones)
      (told 4 5 (omega arith) (omega arith) date.hour-tens date.hour-ones)
      (told 6 7 (omega arith) (omega arith) clock.minute-tens clock.minute-ones)
      (told 8 9 (omega arith) (omega arith) clock.second-tens clock.second-ones)
      few date.month-high date.day-low
      (omega (arith, date.day-high, common-least year _ date.month-low date.month-high))
      date.hour-high clock.minute-high clock.second-high)

-- a UTCTime
module _ (c : List ℕ) (long : length c ≡ 13) (u : UsualTime c) where
  abbrev ten : List ℕ
  ten = take 10 (drop 2 c)

  ten-is : (year : ℕ) → year ≤ 9999 → is_time (real_number (figures year ten)) ≡ true
  ten-is = any-year u ten (ten-left c 2 (omega arith)) (λ i h. get_or-take 10 (drop 2 c) i 0 h ∙ get_or-drop 2 c i 0)

  year : ℕ
  year = value_of (get_or c 0 0) (get_or c 1 0)

  year-few : year ≤ 99
  unfolding year
  year-few = omega (arith, u.date.year-tens.high, u.date.year-ones.high)

  in-century : is_time (in_century (figures year ten)) ≡ true
  in-century =
      by-test (ltb year 50)
      (λ e. rw (← in-two-thousands ten (ten-left c 2 (omega arith)) year (ltb-true _ _ e)) (ten-is (2000 + year) (omega (arith, year-few))))
      (λ e. rw (← in-nineteen-hundreds ten (ten-left c 2 (omega arith)) year (ltb-false _ _ e)) (ten-is (1900 + year) (omega (arith, year-few))))

  pub utc-time : is_time (time_in 0x17 c) ≡ true
  unfolding time_in zulu year
  utc-time =
      simp (eq-eqb _ _ long, eq-eqb _ _ u.last, short-read c (omega arith) (pair-told _ _ u.date.year-tens u.date.year-ones)) in-century

-- a GeneralizedTime, which has a century before the octets of a UTCTime
module _ (c : List ℕ) (long : length c ≡ 15) (l : Later (get_or c 0 0) (get_or c 1 0) (get_or c 2 0)) (u : UsualTime (take 13 (drop 2 c))) where
  abbrev rest : List ℕ
  rest = take 13 (drop 2 c)

  abbrev last-ten : List ℕ
  last-ten = take 10 (drop 4 c)

  at_rest : (i : ℕ) → i < 13 → get_or rest i 0 ≡ get_or c (2 + i) 0
  at_rest i h = get_or-take 13 (drop 2 c) i 0 h ∙ get_or-drop 2 c i 0

  at_last : (i : ℕ) → i < 10 → get_or last-ten i 0 ≡ get_or rest (2 + i) 0
  at_last i h =
      let next : 4 + i ≡ 2 + (2 + i) = omega arith in
      get_or-take 10 (drop 4 c) i 0 h ∙ get_or-drop 4 c i 0 ∙ ap (λ (k : ℕ). get_or c k 0) next ∙ sym (at_rest (2 + i) (omega (arith, h)))

  tens : Digit (get_or c 2 0)
  tens = rw (at_rest 0 (omega arith)) at u.date.year-tens

  ones : Digit (get_or c 3 0)
  ones = rw (at_rest 1 (omega arith)) at u.date.year-ones

  zulu-last : get_or c 14 0 ≡ 90
  zulu-last = sym (at_rest 12 (omega arith)) ∙ u.last

  full : ℕ
  full = value_of (get_or c 0 0) (get_or c 1 0) * 100 + value_of (get_or c 2 0) (get_or c 3 0)

  full-few : full ≤ 9999
  unfolding full
  full-few = omega (arith, l.first.high, l.second.high, tens.high, ones.high)

  full-late : 2050 ≤ full
  unfolding full
  full-late = omega (arith, l.from)

  pub full-time : is_time (time_in 0x18 c) ≡ true
  unfolding time_in zulu full
  full-time =
      let century-few : value_of (get_or c 0 0) (get_or c 1 0) ≤ 99 = omega (arith, l.first.high, l.second.high) in
      let rest-few : value_of (get_or c 2 0) (get_or c 3 0) ≤ 99 = omega (arith, tens.high, ones.high) in
      simp (eq-eqb _ _ long, eq-eqb _ _ zulu-last, long-read c (omega arith) (pair-told _ _ l.first l.second) (pair-told _ _ tens ones))
      (rw (← late-enough last-ten (ten-left c 4 (omega arith)) full full-late) (any-year u last-ten (ten-left c 4 (omega arith)) at_last full full-few))

-- the clock
module _
    (c : List ℕ) (octet : (i : ℕ) → get_or c i 0 < 256) {x : ℕ}
    (is : x ≡ ((get_or c 11 0 * 256 + get_or c 10 0) * 256 + get_or c 9 0) * 256 + get_or c 8 0) where
  clock-is : x ≡ word (clock_of c)
  unfolding word
  clock-is = omega (arith, is)

  pub clock-told : bit_and x 0xf0f0f0f0 ≡ 0x30303030 → bit_and (x + 0x060a060a) 0xf0f0f0f0 ≡ 0x30303030 → UsualClock c
  clock-told high more = usual-clock c (four-uppers _ _ _ _ (octet 8, (octet 9, (octet 10, (octet 11, tt)))) (rw clock-is at high)) x clock-is more
