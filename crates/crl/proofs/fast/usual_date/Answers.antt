-- Eight octets as one number, and what its bits tell; then the same of its pairs.
use Prim.Native.Nat.{◌+◌, ◌-◌, ◌*◌, ◌/◌, ◌≤◌}
use mathlib.Core.Logic.{inl, inr}
use mathlib.Core.Path.{refl}
use native.Mathlib.Omega.{arith}
use borrow.Author.Tests.{eqb-false, not-true}
use Rattle.crl.proofs.Digits.{HeldTo, never, date-most, date-least, date-told}
use Rattle.crl.proofs.fast.usual_date.Goals as goal
use Rattle.crl.proofs.fast.usual_date.Goals.{Else-octets-ne3472328296227680304, then-pairs-ne0+else-not-late, else-pairs-ne0}

-- the bounds of eight octets that all have 3 as their upper half
most : (c : Else-octets-ne3472328296227680304) → c.four.result + c.four-2.result * 0x100000000 ≤ 0x3f3f3f3f3f3f3f3f
most c =
    date-most c.args.c.now (λ i. (c.type_inv.c i).fits) c.four.ensures
    c.four-2.ensures c.if-octets-ne3472328296227680304.false

least : (c : Else-octets-ne3472328296227680304) → 0x3030303030303030 ≤ c.four.result + c.four-2.result * 0x100000000
least c =
    date-least c.args.c.now (λ i. (c.type_inv.c i).fits) c.four.ensures
    c.four-2.ensures c.if-octets-ne3472328296227680304.false

pub overflow_mul-octets : goal.overflow_mul-octets
overflow_mul-octets c =
    let octet = c.type_inv.c in
    omega (arith, c.four-2.ensures, (octet 4).fits, (octet 5).fits, (octet 6).fits, (octet 7).fits)

pub overflow_add-octets : goal.overflow_add-octets
overflow_add-octets c =
    let octet = c.type_inv.c in
    omega (
      arith,
      c.four.ensures,
      c.four-2.ensures,
      (octet 0).fits,
      (octet 1).fits,
      (octet 2).fits,
      (octet 3).fits,
      (octet 4).fits,
      (octet 5).fits,
      (octet 6).fits,
      (octet 7).fits,
    )

pub returns-then-octets-ne3472328296227680304 : goal.returns-then-octets-ne3472328296227680304
returns-then-octets-ne3472328296227680304 c = λ no. never no

pub overflow_add-octets-2 : goal.overflow_add-octets-2
overflow_add-octets-2 c = omega (arith, most (goal.at.overflow_add-octets-2 c).Else-octets-ne3472328296227680304)

pub returns-then-octets-ne3472328296227680304-2 : goal.returns-then-octets-ne3472328296227680304-2
returns-then-octets-ne3472328296227680304-2 c = λ no. never no

pub overflow_sub-digits : goal.overflow_sub-digits
overflow_sub-digits c = least (goal.at.overflow_sub-digits c).Else-octets-ne3472328296227680304

pub overflow_mul-pairs : goal.overflow_mul-pairs
overflow_mul-pairs c = omega (arith, most (goal.at.overflow_mul-pairs c).Else-octets-ne3472328296227680304)

pub overflow_add-pairs : goal.overflow_add-pairs
overflow_add-pairs c = omega (arith, most (goal.at.overflow_add-pairs c).Else-octets-ne3472328296227680304)

pub overflow_add-pairs-2 : goal.overflow_add-pairs-2
overflow_add-pairs-2 c = omega (arith, most (goal.at.overflow_add-pairs-2 c).Else-octets-ne3472328296227680304)

pub returns-then-not-late : goal.returns-then-not-late
returns-then-not-late c = λ no. never no

pub returns-then-pairs-eq0 : goal.returns-then-pairs-eq0
returns-then-pairs-eq0 c = λ no. never no

pub returns : goal.returns
returns c =
    let held : HeldTo ((c.four.result + c.four-2.result * 0x100000000 - 0x3030303030303030) * 10 + (c.four.result + c.four-2.result * 0x100000000 - 0x3030303030303030) / 256) =
    elim c.if-pairs-ne0.branch [
      | then-pairs-ne0+else-not-late w ↦ inr (w.late.ensures w.if-not-late.false)
      | else-pairs-ne0 w ↦ inl w.if-pairs-ne0.false
    ] in
    λ some. date-told c.args.c.now (λ i. (c.type_inv.c i).fits) c.four.ensures
    c.four-2.ensures c.if-octets-ne3472328296227680304.false c.if-octets-ne3472328296227680304-2.false refl held c.if-pairs-eq0.false (eqb-false _ _ (not-true _ some))
