use Prim.Native.Nat.{◌≤◌}
use mathlib.Core.Bool.{false}
use mathlib.Core.Path.{◌≡◌}
use lib.ListN.{length}
use Rattle.usable.specs.Rows.{row_at}
use Rattle.usable.proofs.Slots.{Upto}
use Rattle.chain.specs.Given.{list_of}
use Rattle.chain.proofs.proposal.open_lists.Given as goal

abbrev pub invariant-loop-place : goal.invariant-loop-place
invariant-loop-place l =
    (l.places ≤ 96) × (length l.lists ≡ 96) × Upto false (λ p. list_of (row_at l.rows p)) l.lists l.place
