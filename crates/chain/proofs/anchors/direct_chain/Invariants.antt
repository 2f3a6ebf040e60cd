use Prim.Native.Nat.{ℕ, ◌<◌, ◌≤◌}
use mathlib.Core.Path.{◌≡◌}
use mathlib.Core.Bool.{false}
use mathlib.Core.List.{List}
use lib.ListN.{get_or}
use Rattle.usable.specs.Rows.{held_in, step_of}
use Rattle.chain.proofs.anchors.direct_chain.Given as goal

-- what holds before each place
pub record Turn (image table : List ℕ) (places : ℕ) (rows : List (List ℕ)) (target : ℕ) (roles : List ℕ) (u : ℕ) : Type 0 where
  pub small : places ≤ 96
  pub there : target < places
  pub none : (w : ℕ) → w < u → get_or roles w 0 ≡ 1 → step_of (held_in image) places table rows roles w target ≡ false

abbrev pub invariant-loop-u : goal.invariant-loop-u
invariant-loop-u l = Turn l.image l.table l.places l.rows l.target l.roles l.u
