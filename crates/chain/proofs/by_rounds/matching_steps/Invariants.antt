use Prim.Native.Nat.{ℕ, ◌*◌, ◌≤◌, ◌<◌}
use mathlib.Core.Path.{◌≡◌}
use mathlib.Core.Bool.{true}
use mathlib.Core.List.{List}
use lib.ListN.{length, get_or, take, drop}
use Rattle.usable.specs.Rows.{held_in, flag, leads_of, step_of}
use Rattle.chain.proofs.Cells.{Cells}
use Rattle.chain.proofs.by_rounds.matching_steps.Given as goal

-- the cells before row u and column v are those of the steps
abbrev pub Filled : List ℕ → ℕ → List ℕ → List (List ℕ) → List ℕ → List ℕ → ℕ → ℕ → Type 0
Filled image places table rows roles steps u v =
    (length steps ≡ 9216) × Cells (λ w x. flag (step_of (held_in image) places table rows roles w x)) places steps u v

-- the line of a place that leads on
pub record Line (places : ℕ) (table roles : List ℕ) (u : ℕ) (line : List ℕ) : Type 0 where
  pub small : places ≤ 96
  pub place : u < places
  pub leads : leads_of (get_or roles u 0) ≡ true
  pub is : line ≡ take places (drop (u * places) table)

abbrev pub invariant-loop-v : goal.invariant-loop-v
invariant-loop-v l = Line l.places l.table l.roles l.u l.line × Filled l.image l.places l.table l.rows l.roles l.steps l.u l.v

abbrev pub invariant-loop-u : goal.invariant-loop-u
invariant-loop-u l = (l.places ≤ 96) × Filled l.image l.places l.table l.rows l.roles l.steps l.u 0
