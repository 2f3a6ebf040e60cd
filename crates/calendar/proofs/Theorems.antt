-- What the calendar promises, from its definitions alone.
use Rattle.std.specs.Prelude.{Ok}
use mathlib.Core.Path.{◌≡◌, ◌∙◌, ap}
use mathlib.Core.Bool.{true}
use mathlib.Core.Logic.{◌↔◌}
use Prim.Native.Nat.{ℕ, suc, ◌<◌}
use lib.IntN.{ℤ, pos, negsuc, neg_ℤ, ◌+ℤ◌}
use Rattle.calendar.specs.Days.{real_day}
use Rattle.calendar.specs.Number.{day_number, day_after}
use Rattle.calendar.specs.Difference.{difference_of}
use Rattle.calendar.proofs.Days.{real}
use Rattle.calendar.proofs.Number.{first-number, last-number, after, after-real as after-is-real, later, no_other}
use Rattle.calendar.proofs.Signed.{adds, turns}
use Rattle.calendar.proofs.Between.{answer, Answered, answered as between, below-zero, earlier}

-- The first day, 1 January 1950, has the number 0.
pub first-day : day_number 19500101 ≡ 0
first-day = first-number

-- The last day, 31 December 2099, has the number 54786.
pub last-day : day_number 20991231 ≡ 54786
last-day = last-number

-- The day after a real day has the next number.
pub day-after : (day : ℕ) → real_day 1950 2099 day ≡ true → day_number (day_after day) ≡ suc (day_number day)
day-after day t = after day (real 1950 2099 day t)

-- The day after a real day is a real day, but for the last.
pub after-real : (day : ℕ) → real_day 1950 2099 day ≡ true → day < 20991231 → real_day 1950 2099 (day_after day) ≡ true
after-real day t h = after-is-real day (real 1950 2099 day t) h

-- A later real day has a greater number.
pub later-is-more : (a b : ℕ) → real_day 1950 2099 a ≡ true → real_day 1950 2099 b ≡ true
    → a < b → day_number a < day_number b
later-is-more a b ta tb h = later a b (real 1950 2099 a ta) (real 1950 2099 b tb) h

-- There is no other numbering: one that gives the first day 0 and rises by one from each day to the next is this one.
pub only : (f : ℕ → ℕ)
    → f 19500101 ≡ 0
    → ((d : ℕ) → real_day 1950 2099 d ≡ true → d < 20991231 → f (day_after d) ≡ suc (f d))
    → (d : ℕ) → real_day 1950 2099 d ≡ true → f d ≡ day_number d
only f zeroth step d t = no_other f zeroth step d (real 1950 2099 d t)

-- Between two real days there is a number of days.
pub answered : (a b : ℕ) → real_day 1950 2099 a ≡ true → real_day 1950 2099 b ≡ true
    → (x : ℤ) × (difference_of a b ≡ Ok x)
answered a b ta tb = (_, answer a b ta tb)

-- If b is x days after a, and c is y days after b, then c is x + y days after a.
pub additive : (a b c : ℕ) (x y : ℤ)
    → difference_of a b ≡ Ok x → difference_of b c ≡ Ok y → difference_of a c ≡ Ok (x +ℤ y)
additive a b c x y p q =
    let k : Answered a b x = between a b x p in
    let l : Answered b c y = between b c y q in
    answer a c k.from l.to
    ∙ ap Ok (rw (k.days, l.days) (adds (pos (day_number a)) (pos (day_number b)) (pos (day_number c))))

-- If b is x days after a, then a is -x days after b.
pub turned : (a b : ℕ) (x : ℤ) → difference_of a b ≡ Ok x → difference_of b a ≡ Ok (neg_ℤ x)
turned a b x p =
    let k : Answered a b x = between a b x p in
    answer b a k.to k.from
    ∙ ap Ok (rw k.days (turns (pos (day_number a)) (pos (day_number b))))

-- Between real days the number is negative if, and only if, the second is earlier.
pub negative : (a b : ℕ) → real_day 1950 2099 a ≡ true → real_day 1950 2099 b ≡ true
    → (b < a) ↔ ((n : ℕ) × (difference_of a b ≡ Ok (negsuc n)))
negative a b ta tb = (λ h. (_, below-zero a b ta tb h), λ p. earlier a b p.0 p.1)
