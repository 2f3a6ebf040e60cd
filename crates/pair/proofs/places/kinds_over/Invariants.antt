use Prim.Native.Nat.{ℕ, ◌-◌, ◌<◌, ◌≤◌}
use mathlib.Core.Path.{◌≡◌}
use lib.ListN.{length, get_or}
use Rattle.pair.proofs.places.kinds_over.Given as goal

abbrev pub invariant-loop-place : goal.invariant-loop-place
invariant-loop-place l =
    (l.own ≤ l.place) × (length l.kinds ≡ 96)
    × ((p : ℕ) → p < l.own → get_or l.kinds p 0 ≡ get_or l.initial.kinds p 0)
    × ((p : ℕ) → p < l.place → l.own ≤ p → get_or l.kinds p 0 ≡ get_or l.later (p - l.own) 0)

abbrev pub decreases-loop-place : goal.decreases-loop-place
decreases-loop-place l = 96 - l.place
