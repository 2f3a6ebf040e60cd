use Prim.Native.Nat.{◌*◌, ◌≤◌}
use mathlib.Core.Path.{◌≡◌}
use mathlib.Core.Bool.{false}
use lib.ListN.{length, take, drop}
use Rattle.chain.proofs.Proposals.{Unheard}
use Rattle.chain.proofs.proposal.vouches.Given as goal

abbrev pub invariant-loop-v : goal.invariant-loop-v
invariant-loop-v l =
    (l.line ≡ take l.places (drop (l.u * l.places) l.table)) × (length l.line ≤ 96) × (l.heard ≡ false → Unheard l.line l.lists l.v)
