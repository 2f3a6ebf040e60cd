-- The octets compared so far are alike just if those before this one were, and this one.
use mathlib.Core.List.{[]}
use mathlib.Core.Path.{sym}
use native.Mathlib.Omega.{arith}
use Rattle.octets.proofs.Likeness.{alike_self, alike_next}
use Rattle.octets.proofs.equality.same_part.Goals as goal

pub loop-i-init : goal.loop-i-init
loop-i-init c = sym (alike_self [])

pub loop-i-preserved : goal.loop-i-preserved
loop-i-preserved c = rw c.loop-i.invariant (sym (alike_next c.args.a.now c.args.b.now c.loop-i.i (omega arith) (omega arith)))
