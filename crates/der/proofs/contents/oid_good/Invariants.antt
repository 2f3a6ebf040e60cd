use Prim.Native.Nat.{◌-◌, ◌≤◌}
use mathlib.Core.Bool.{true}
use mathlib.Core.Path.{◌≡◌}
use lib.Dec.{ltb}
use lib.ListN.{length, get_or, drop}
use Rattle.der.specs.Contents.{sub_identifiers}
use Rattle.der.proofs.contents.oid_good.Given as goal

abbrev pub invariant-loop-i : goal.invariant-loop-i
invariant-loop-i l = (1 ≤ l.i) × (l.i ≤ length l.c) × (sub_identifiers (ltb (get_or l.c (l.i - 1) 0) 128) (drop l.i l.c) ≡ sub_identifiers true l.c)
