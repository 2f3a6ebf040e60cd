use Prim.Native.Nat.{◌≤◌}
use mathlib.Core.Path.{◌≡◌}
use lib.ListN.{length}
use Rattle.chain.proofs.Proposals.{Asking}
use Rattle.chain.proofs.proposal.near_vouching.Given as goal

abbrev pub invariant-loop-u : goal.invariant-loop-u
invariant-loop-u l = (l.places ≤ 96) × (length l.more ≡ 96) × Asking l.places l.table l.lists l.near l.more l.u
