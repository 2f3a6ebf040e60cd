-- The slots that are left grow fewer.
use native.Mathlib.Omega.{arith}
use Rattle.cases.proofs.chains.unused.Goals as goal

pub loop-i-init : goal.loop-i-init
loop-i-init c = tt

pub bounds-slots-i : goal.bounds-slots-i
bounds-slots-i c = omega arith

pub returns-then-slots-i : goal.returns-then-slots-i
returns-then-slots-i c = tt

pub overflow_add-i : goal.overflow_add-i
overflow_add-i c = omega arith

pub loop-i-smaller : goal.loop-i-smaller
loop-i-smaller c = omega arith

pub loop-i-preserved : goal.loop-i-preserved
loop-i-preserved c = tt

pub returns : goal.returns
returns c = tt
