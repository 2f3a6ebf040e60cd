use mathlib.Core.Path.{◌≡◌}
use Prim.Native.Nat.{ℕ, ◌*◌, ◌-◌, ◌^◌, ◌≤◌}
use mathlib.Core.List.{List, ◌++◌}
use lib.ListN.{length, drop}
use Rattle.image.specs.Index.{width}
use Rattle.writer.specs.Rows.{rows_bytes}
use Rattle.writer.proofs.put_index.Given as goal

abbrev pub invariant-loop-i : goal.invariant-loop-i
invariant-loop-i l =
    (l.i ≤ length l.kinds) × (l.at ≡ width l.version * l.i) × (l.offset ≤ l.i * 2 ^ 32) × (length l.out ≡ length l.initial.out)
    × ((done : List ℕ) × (length done ≡ l.at) × (l.out ≡ done ++ drop l.at l.initial.out)
    × (done ++ rows_bytes l.version l.offset (drop l.i l.kinds) (drop l.i l.flags) (drop l.i l.lengths) (drop (2 * l.i) l.letters)
    ≡ rows_bytes l.version 0 l.kinds l.flags l.lengths l.letters))

abbrev pub decreases-loop-i : goal.decreases-loop-i
decreases-loop-i l = length l.kinds - l.i
