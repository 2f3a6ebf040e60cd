-- The remainder leaves room for one octet more, and the octets that are left grow fewer.
use native.Mathlib.Omega.{arith}
use Rattle.cases.proofs.record.number.Goals as goal

pub loop-i-init : goal.loop-i-init
loop-i-init c = tt

pub overflow_mul-value : goal.overflow_mul-value
overflow_mul-value c = omega arith

pub bounds-octets-i : goal.bounds-octets-i
bounds-octets-i c = omega arith

pub overflow_cast-value : goal.overflow_cast-value
overflow_cast-value c = omega (arith, c.shared_slice_known-1.given c.loop-i.i)

pub overflow_add-value : goal.overflow_add-value
overflow_add-value c = omega (arith, c.shared_slice_known-1.given c.loop-i.i)

pub overflow_add-i : goal.overflow_add-i
overflow_add-i c = omega arith

pub loop-i-smaller : goal.loop-i-smaller
loop-i-smaller c = omega arith

pub loop-i-preserved : goal.loop-i-preserved
loop-i-preserved c = tt

pub returns : goal.returns
returns c = tt
