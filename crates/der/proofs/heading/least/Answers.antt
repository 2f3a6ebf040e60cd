-- Each arm is what the definition computes.
use mathlib.Core.Path.{◌≡◌, refl}
use native.Mathlib.Omega.{arith}
use Rattle.der.specs.Heading.{smallest}
use Rattle.der.proofs.heading.least.Goals as goal

pub returns-in-1 : goal.returns-in-1
unfolding smallest
returns-in-1 c = rw c.in-1.is refl

pub returns-in-2 : goal.returns-in-2
unfolding smallest
returns-in-2 c = rw c.in-2.is refl

pub returns-in_default : goal.returns-in_default
unfolding smallest
returns-in_default c = let three : c.args.count ≡ 3 = omega arith in rw three refl
