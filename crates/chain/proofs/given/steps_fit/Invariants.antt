use Prim.Native.Nat.{ℕ, ◌+◌, ◌<◌, ◌≤◌}
use mathlib.Core.Path.{◌≡◌}
use mathlib.Core.Bool.{true}
use mathlib.Core.List.{List}
use lib.ListN.{length, get_or}
use Rattle.usable.specs.Rows.{held_in}
use Rattle.chain.specs.Given.{InRange, joined}
use Rattle.chain.proofs.given.steps_fit.Given as goal

-- what holds before each step
pub record Turn (image table : List ℕ) (count : ℕ) (rows : List (List ℕ)) (places : List ℕ) (last i : ℕ) : Type 0 where
  pub small : count ≤ 96
  pub range : InRange count places
  pub ends : last + 1 ≡ length places
  pub good : (k : ℕ) → k < i → joined (held_in image) count table rows (get_or places k 0) (get_or places (k + 1) 0) ≡ true

abbrev pub invariant-loop-i : goal.invariant-loop-i
invariant-loop-i l = Turn l.image l.table l.count l.rows l.places l.last l.i
