-- In which of two images a part lies.
use Prim.Native.Nat.{ℕ, ◌-◌, ◌≤◌, ◌<◌}
use mathlib.Core.Path.{◌≡◌}
use mathlib.Core.List.{List}
use lib.ListN.{length, take, drop}
use borrow.Author.Tests.{lt-ltb, le-ltb}
use Rattle.pair.specs.Places.{part_over}

pub part-first :
    (s u : List ℕ) (from size : ℕ) → from < length s → part_over s u from size ≡ take size (drop from s)
unfolding part_over
part-first s u from size inside = simp (lt-ltb _ _ inside)

pub part-update :
    (s u : List ℕ) (from size : ℕ) → length s ≤ from → part_over s u from size ≡ take size (drop (from - length s) u)
unfolding part_over
part-update s u from size beyond = simp (le-ltb _ _ beyond)
