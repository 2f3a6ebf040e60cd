use Prim.Native.Nat.{ℕ, ◌≤◌, ◌<◌}
use mathlib.Core.Path.{◌≡◌}
use lib.ListN.{length, get_or}
use Rattle.usable.specs.Rows.{held_in, role_in}
use Rattle.usable.proofs.Slots.{Upto}
use Rattle.usable.proofs.roles.roles_of.Given as goal

abbrev pub invariant-loop-place : goal.invariant-loop-place
invariant-loop-place l =
    (l.places ≤ 96) × (length l.more ≡ 96) × (l.first ≤ l.places) × ((c : ℕ) → c < l.first → get_or l.counting c 0 ≡ 1 → ⊥)
    × Upto 0 (role_in (held_in l.octets) l.places l.before l.rows l.counting l.roles) l.more l.place
