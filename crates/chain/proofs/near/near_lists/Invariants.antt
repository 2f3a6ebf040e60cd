use mathlib.Core.Path.{◌≡◌}
use lib.ListN.{length, get_or}
use Rattle.chain.specs.Near.{waiting_of}
use Rattle.usable.proofs.Slots.{Upto}
use Rattle.chain.proofs.near.near_lists.Given as goal

abbrev pub invariant-loop-place : goal.invariant-loop-place
invariant-loop-place l = (length l.near ≡ 96) × Upto 0 (λ p. waiting_of (get_or l.kinds p 0)) l.near l.place
