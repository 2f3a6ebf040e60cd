-- Laws of the difference of two days: it is that of their numbers, which are in the order of the days.
use Rattle.std.specs.Prelude.{Ok}
use mathlib.Core.Path.{◌≡◌, sym, ◌∙◌, ap}
use mathlib.Core.Bool.{true, ◌&&◌, and-eq-true_iff}
use Prim.Native.Nat.{ℕ, suc, ◌-◌, ◌<◌, ◌≤◌}
use native.Mathlib.Omega.{arith}
use lib.Dec.{ltb}
use lib.IntN.{ℤ, pos, negsuc, ◌-ℤ◌, pos-ne-negsuc}
use borrow.Author.Tests.{ltb-true, ltb-false}
use Rattle.calendar.specs.Days.{real_day}
use Rattle.calendar.specs.Number.{day_number}
use Rattle.calendar.specs.Difference.{difference_of}
use Rattle.calendar.proofs.Days.{by-test, Real, real}
use Rattle.calendar.proofs.Number.{later}
use Rattle.calendar.proofs.Signed.{less, more}

pub answer : (a b : ℕ) → real_day 1950 2099 a ≡ true → real_day 1950 2099 b ≡ true
    → difference_of a b ≡ Ok (pos (day_number b) -ℤ pos (day_number a))
unfolding difference_of
answer a b ta tb = simp (ta, tb)

-- only real days have an answer, and it is this one
pub record Answered (a b : ℕ) (x : ℤ) : Type 0 where
  pub from : real_day 1950 2099 a ≡ true
  pub to : real_day 1950 2099 b ≡ true
  pub days : x ≡ pos (day_number b) -ℤ pos (day_number a)

pub answered : (a b : ℕ) (x : ℤ) → difference_of a b ≡ Ok x → Answered a b x
unfolding difference_of
answered a b x e =
    by-test (real_day 1950 2099 a && real_day 1950 2099 b)
    (λ t.
    let both = (and-eq-true_iff (real_day 1950 2099 a) (real_day 1950 2099 b)).0 t in
    let right : difference_of a b ≡ Ok (pos (day_number b) -ℤ pos (day_number a)) = answer a b both.0 both.1 in
    record { from = both.0; to = both.1; days = cc })
    (λ t. let no = simp t at e in let z : ◌≡◌ {A = ℕ} 0 1 = cc in absurd (omega arith))

-- an earlier second day makes it negative, and no other
pub below-zero : (a b : ℕ) → real_day 1950 2099 a ≡ true → real_day 1950 2099 b ≡ true → b < a
    → difference_of a b ≡ Ok (negsuc (day_number a - suc (day_number b)))
below-zero a b ta tb h =
    answer a b ta tb ∙ ap Ok (less _ _ (later b a (real 1950 2099 b tb) (real 1950 2099 a ta) h))

in_order : (a b : ℕ) → Real 1950 2099 a → Real 1950 2099 b → a ≤ b → day_number a ≤ day_number b
in_order a b ra rb h =
    by-test (ltb a b) (λ l. omega (arith, later a b ra rb (ltb-true a b l)))
    (λ l. let e : a ≡ b = omega (arith, ltb-false a b l) in omega (arith, ap day_number e))

pub earlier : (a b n : ℕ) → difference_of a b ≡ Ok (negsuc n) → b < a
earlier a b n e =
    by-test (ltb b a) (λ l. ltb-true b a l)
    (λ l.
    let k : Answered a b (negsuc n) = answered a b (negsuc n) e in
    absurd
    (pos-ne-negsuc _ n
    (sym (k.days ∙ more _ _ (in_order a b (real 1950 2099 a k.from) (real 1950 2099 b k.to) (ltb-false b a l))))))
