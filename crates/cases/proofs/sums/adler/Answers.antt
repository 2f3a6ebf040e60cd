-- The remainders leave room for each addition, and the octets that are left grow fewer.
use native.Mathlib.Omega.{arith}
use Rattle.cases.proofs.sums.adler.Goals as goal

pub loop-i-init : goal.loop-i-init
loop-i-init c = tt

pub bounds-octets-i : goal.bounds-octets-i
bounds-octets-i c = omega arith

pub overflow_cast-low : goal.overflow_cast-low
overflow_cast-low c = omega (arith, c.shared_slice_known-1.given c.loop-i.i)

pub overflow_add-low : goal.overflow_add-low
overflow_add-low c = omega (arith, c.shared_slice_known-1.given c.loop-i.i)

pub overflow_add-high : goal.overflow_add-high
overflow_add-high c = omega arith

pub overflow_add-i : goal.overflow_add-i
overflow_add-i c = omega arith

pub loop-i-smaller : goal.loop-i-smaller
loop-i-smaller c = omega arith

pub loop-i-preserved : goal.loop-i-preserved
loop-i-preserved c = tt

pub overflow_mul-result : goal.overflow_mul-result
overflow_mul-result c = omega arith

pub overflow_add-result : goal.overflow_add-result
overflow_add-result c = omega arith

pub returns : goal.returns
returns c = tt
