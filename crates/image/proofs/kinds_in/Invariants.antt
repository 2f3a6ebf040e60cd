use Prim.Native.Nat.{ℕ, ◌+◌, ◌*◌, ◌-◌, ◌<◌, ◌≤◌}
use mathlib.Core.Path.{◌≡◌}
use lib.ListN.{length, get_or}
use Rattle.image.specs.Index.{index_start, width, entry_of}
use Rattle.image.proofs.kinds_in.Given as goal

abbrev pub invariant-loop-place : goal.invariant-loop-place
invariant-loop-place l =
    (l.place ≤ 96) × (length l.kinds ≡ 96) × (l.at ≡ index_start l.image + width l.version * l.place)
    × ((p : ℕ) → p < l.place → get_or l.kinds p 0 ≡ (entry_of l.version l.image p).kind)

abbrev pub decreases-loop-place : goal.decreases-loop-place
decreases-loop-place l = 96 - l.place
