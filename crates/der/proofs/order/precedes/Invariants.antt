use Prim.Native.Nat.{◌≤◌}
use mathlib.Core.Path.{◌≡◌}
use lib.ListN.{length, drop}
use Rattle.der.specs.Order.{smaller}
use Rattle.der.proofs.order.precedes.Given as goal

abbrev pub invariant-loop-i : goal.invariant-loop-i
invariant-loop-i l = (l.i ≤ length l.b) × (smaller (drop l.i l.a) (drop l.i l.b) ≡ smaller l.a l.b)
