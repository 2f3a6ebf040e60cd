use Prim.Native.Nat.{◌≤◌}
use mathlib.Core.Path.{◌≡◌}
use lib.ListN.{length, get_or}
use Rattle.chain.specs.Near.{first_of}
use Rattle.usable.proofs.Slots.{Upto}
use Rattle.chain.proofs.near.near_first.Given as goal

abbrev pub invariant-loop-place : goal.invariant-loop-place
invariant-loop-place l =
    (l.places ≤ 96) × (length l.near ≡ 96) × Upto 0 (λ p. first_of l.target p (get_or l.kinds p 0)) l.near l.place
