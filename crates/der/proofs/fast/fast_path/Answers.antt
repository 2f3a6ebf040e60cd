-- The element is read by the path that takes it.
use Prim.Native.Nat.{◌+◌, ◌-◌}
use native.Mathlib.Omega.{arith}
use borrow.Author.Tests.{eq-eqb, ne_eqb}
use Rattle.der.specs.Heading.{constructed}
use Rattle.der.proofs.fast.fast_path.Goals as goal

pub flat-requires : goal.flat-requires
unfolding constructed
flat-requires c = (omega arith, omega arith, omega arith, omega arith, omega arith, eq-eqb _ _ c.if-s-at-eq1.true)

pub returns-then-s-at-eq1 : goal.returns-then-s-at-eq1
returns-then-s-at-eq1 c = (c.if-end-at.false, λ forms e levels. c.in_ok-read.ensures forms (omega arith) levels)

pub primitive-requires : goal.primitive-requires
unfolding constructed
primitive-requires c = (omega arith, omega arith, omega arith, ne_eqb _ _ c.if-s-at-eq1.false)

pub returns : goal.returns
returns c = (
  c.if-end-at.false,
  λ forms e levels. c.primitive.ensures c.if-not-primitive.false forms (forms.depth + 1 - c.args.place.left) c.args.place.count (omega arith) (omega arith),
)
