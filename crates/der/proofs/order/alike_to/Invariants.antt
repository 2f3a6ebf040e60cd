use Prim.Native.Nat.{ℕ, ◌-◌, ◌≤◌}
use mathlib.Core.List.{List}
use mathlib.Core.Path.{◌≡◌}
use lib.ListN.{length, take}
use Rattle.der.proofs.order.alike_to.Given as goal

abbrev pub Alike : List ℕ → List ℕ → ℕ → Type 0
Alike a b i = (i ≤ length a) × (i ≤ length b) × (take i a ≡ take i b)

abbrev pub invariant-loop-i : goal.invariant-loop-i
invariant-loop-i l = Alike l.a l.b l.i

abbrev pub decreases-loop-i : goal.decreases-loop-i
decreases-loop-i l = length l.a - l.i
