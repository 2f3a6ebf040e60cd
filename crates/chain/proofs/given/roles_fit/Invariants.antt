use Prim.Native.Nat.{ℕ, ◌-◌, ◌<◌}
use mathlib.Core.Path.{◌≡◌}
use mathlib.Core.List.{List}
use lib.ListN.{length, get_or}
use Rattle.chain.specs.Given.{InRange, role_asked}
use Rattle.chain.proofs.given.roles_fit.Given as goal

-- what holds before each place
pub record Turn (places roles : List ℕ) (end i : ℕ) : Type 0 where
  pub range : InRange 96 places
  pub all : end ≡ length places - 1
  pub each : (k : ℕ) → k < i → get_or roles (get_or places k 0) 0 ≡ role_asked k

abbrev pub invariant-loop-i : goal.invariant-loop-i
invariant-loop-i l = Turn l.places l.roles l.end l.i
