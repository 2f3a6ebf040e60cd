use Prim.Native.Nat.{ℕ, ◌<◌, ◌≤◌}
use mathlib.Core.Path.{◌≡◌}
use mathlib.Core.Bool.{false}
use Rattle.usable.specs.Rows.{held_in, step_of}
use Rattle.chain.proofs.anchors.led_to.Given as goal

abbrev pub invariant-loop-u : goal.invariant-loop-u
invariant-loop-u l =
    (l.places ≤ 96) × (l.target < l.places) × ((w : ℕ) → w < l.u → step_of (held_in l.image) l.places l.table l.rows l.roles w l.target ≡ false)
