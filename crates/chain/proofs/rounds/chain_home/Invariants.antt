use Prim.Native.Nat.{ℕ, ◌-◌, ◌<◌, ◌≤◌}
use mathlib.Core.Path.{◌≡◌}
use mathlib.Core.List.{List}
use lib.ListN.{length}
use Rattle.image.specs.Index.{entry_count, version_in}
use Rattle.chain.proofs.ImageRounds.{Round}
use Rattle.chain.proofs.rounds.chain_home.Given as goal

-- what holds before each round
pub record Turn (version : ℕ) (image table : List ℕ) (places moment target first second round : ℕ) (near : List ℕ) (rows : List (List ℕ)) (counting roles : List ℕ) : Type 0 where
  pub own : version ≡ version_in image
  pub all : places ≡ entry_count image
  pub small : places ≤ 96
  pub there : target < places
  pub early : round ≤ 3
  pub slots : length rows ≡ 96
  pub holds : Round first second image table moment target round near rows counting roles

abbrev pub invariant-loop-near : goal.invariant-loop-near
invariant-loop-near l =
    Turn l.version l.image l.table l.places l.moment l.target l.first l.second l.round l.near l.rows l.counting l.roles

abbrev pub decreases-loop-near : goal.decreases-loop-near
decreases-loop-near l = 4 - l.round
