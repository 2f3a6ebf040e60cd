-- Both days have a number or the question is refused, and the numbers are small, so their signed difference is that of the days.
use Rattle.std.specs.Prelude.{Ok, Option, Some, None}
use Rattle.std.proofs.lemmas.Result.{err_from_is_err_and}
use mathlib.Core.Path.{◌≡◌, ◌∙◌, sym, ap}
use mathlib.Core.Bool.{true, false, cond}
use Prim.Native.Nat.{ℕ, ◌<◌, ◌^◌}
use native.Mathlib.Omega.{arith}
use mir.Syntax.{w64}
use mir.ValLaws.{to_z_pos, to_z-of_z}
use Rattle.calendar.specs.Days.{real_day}
use Rattle.calendar.specs.Number.{day_number}
use Rattle.calendar.specs.Difference.{difference_of}
use Rattle.calendar.proofs.Days.{by-test, real}
use Rattle.calendar.proofs.Number.{number-most}
use Rattle.calendar.proofs.Signed.{fits}
use Rattle.calendar.proofs.Between.{answer}
use Rattle.calendar.proofs.day_difference.Goals as goal
use Rattle.calendar.proofs.day_difference.Goals.{In_ok-to}

-- what `ordinal` tells of a day
abbrev numbered : ℕ → Option ℕ
numbered day = cond (real_day 1950 2099 day) (Some (day_number day)) None

refused : (day : ℕ) → numbered day ≡ None → real_day 1950 2099 day ≡ false
refused day e = by-test (real_day 1950 2099 day) (λ t. let h = simp t at e in cc) (λ f. f)

record Numbered (day n : ℕ) : Type 0 where
  is_real : real_day 1950 2099 day ≡ true
  number : n ≡ day_number day
  small : n < 2 ^ 63

counted : (day n : ℕ) → numbered day ≡ Some n → Numbered day n
counted day n e =
    by-test (real_day 1950 2099 day)
    (λ t.
    let h = simp t at e in
    let same : n ≡ day_number day = cc in
    record { is_real = t; number = same; small = omega (arith, same, number-most day (real 1950 2099 day t)) })
    (λ f. let h = simp f at e in cc)

pub returns-in_err-from : goal.returns-in_err-from
unfolding difference_of
returns-in_err-from c =
    let told = err_from_is_err_and c.from_residual.result c.from_residual.ensures.1 in
    let none = refused _ (sym c.ordinal.ensures ∙ c.in_err-from.ensures.ok_part) in
    let argument = rw c.in_err-from.ensures.ok_part at c.in_err-from.ensures.value in
    rw (told.1, told.2, none) (cc)

pub returns-in_err-to : goal.returns-in_err-to
unfolding difference_of
returns-in_err-to c =
    let told = err_from_is_err_and c.from_residual-in_err-to.result c.from_residual-in_err-to.ensures.1 in
    let some = counted _ _ (sym c.ordinal.ensures ∙ c.in_ok-from.ensures.ok_part) in
    let none = refused _ (sym c.ordinal-2.ensures ∙ c.in_err-to.ensures.ok_part) in
    let argument = rw c.in_err-to.ensures.ok_part at c.in_err-to.ensures.value in
    rw (told.1, told.2, some.is_real, none) (cc)

from : (c : In_ok-to) → Numbered c.args.first c.in_ok-from.from
from c = counted _ _ (sym c.ordinal.ensures ∙ c.in_ok-from.ensures.ok_part)

to : (c : In_ok-to) → Numbered c.args.second c.in_ok-to.to
to c = counted _ _ (sym c.ordinal-2.ensures ∙ c.in_ok-to.ensures.ok_part)

pub overflow_cast-result : goal.overflow_cast-result
overflow_cast-result c = omega (arith, (to c).small)

pub overflow_cast-result-2 : goal.overflow_cast-result-2
overflow_cast-result-2 c = omega (arith, (from c).small)

pub overflow_sub-result : goal.overflow_sub-result
overflow_sub-result c = fits _ _ (to c).small (from c).small

pub returns : goal.returns
returns c =
    let a = from c in
    let b = to c in
    ap Ok (to_z-of_z w64 _ (fits _ _ b.small a.small))
    ∙ rw (to_z_pos w64 _ b.small, to_z_pos w64 _ a.small, a.number, b.number) (sym (answer _ _ a.is_real b.is_real))
