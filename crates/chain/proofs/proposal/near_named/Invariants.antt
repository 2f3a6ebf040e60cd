use Prim.Native.Nat.{ℕ}
use mathlib.Core.Path.{◌≡◌}
use mathlib.Core.List.{List}
use lib.ListN.{length}
use Rattle.chain.specs.Given.{InRange}
use Rattle.chain.proofs.Proposals.{Marking}
use Rattle.chain.proofs.proposal.near_named.Given as goal

-- what holds before each place
pub record Turn (places near more : List ℕ) (i : ℕ) : Type 0 where
  pub range : InRange 96 places
  pub slots : length more ≡ 96
  pub marked : Marking places near more i

abbrev pub invariant-loop-place : goal.invariant-loop-place
invariant-loop-place l = Turn l.places l.initial.more l.more l.place-index
