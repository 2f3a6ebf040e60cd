use Prim.Native.Nat.{ℕ, ◌<◌, ◌≤◌}
use mathlib.Core.Bool.{false}
use mathlib.Core.Path.{◌≡◌}
use Rattle.usable.specs.Rows.{vouched_by}
use Rattle.usable.proofs.counting.vouched.Given as goal

abbrev pub invariant-loop-anchor : goal.invariant-loop-anchor
invariant-loop-anchor l =
    (l.places ≤ 96) × (l.list < l.places) × ((i : ℕ) → i < l.anchor → vouched_by l.places l.table l.rows l.list i ≡ false)
