-- The length first, then each octet.
use Prim.Native.Nat.{◌*◌, ◌≤◌}
use mathlib.Core.Path.{refl}
use native.Mathlib.Nat.{mul-le-mul}
use native.Mathlib.Omega.{arith}
use borrow.Author.Tests.{eq-eqb, ne_eqb}
use Rattle.usable.specs.Table.{table_good}
use Rattle.usable.proofs.table.table_good.Goals as goal

pub returns-then-places-gt96 : goal.returns-then-places-gt96
returns-then-places-gt96 c = (λ few. absurd (omega (arith, c.if-places-gt96.true)), λ many. refl)

pub overflow_mul-places : goal.overflow_mul-places
overflow_mul-places c =
    let few = c.if-places-gt96.false in
    let fits : c.args.places * c.args.places ≤ 96 * 96 = mul-le-mul few few in omega arith

pub returns-then-table-places : goal.returns-then-table-places
unfolding table_good
returns-then-table-places c = (λ few. rw (ne_eqb _ _ c.if-table-places.true), λ many. absurd (omega (arith, c.if-places-gt96.false)))

pub returns : goal.returns
unfolding table_good
returns c = (λ few. rw (eq-eqb _ _ c.if-table-places.false) c.all_bits.ensures, λ many. absurd (omega (arith, c.if-places-gt96.false)))
