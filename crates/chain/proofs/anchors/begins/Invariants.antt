use Prim.Native.Nat.{◌<◌, ◌≤◌}
use Rattle.chain.proofs.anchors.begins.Given as goal

abbrev pub invariant-loop-v : goal.invariant-loop-v
invariant-loop-v l = (l.places ≤ 96) × (l.u < l.places)

abbrev pub invariant-loop-u : goal.invariant-loop-u
invariant-loop-u l = l.places ≤ 96
