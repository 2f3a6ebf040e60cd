use Prim.Native.Nat.{◌≤◌}
use mathlib.Core.Path.{◌≡◌}
use lib.ListN.{length}
use Rattle.image.specs.Index.{entry_count, version_in, items_in}
use Rattle.usable.proofs.RowLaws.{Rewritten}
use Rattle.chain.specs.Rounds.{starts_in, row_in}
use Rattle.chain.proofs.opening.open_items.Given as goal

abbrev pub invariant-loop-place : goal.invariant-loop-place
invariant-loop-place l =
    (l.version ≡ version_in l.image) × (l.places ≡ entry_count l.image) × (l.places ≤ 96) × (length l.rows ≡ 96)
    × Rewritten (row_in l.moment l.first l.second l.places l.table (items_in l.image) (starts_in l.image) l.before l.near l.initial.rows) l.initial.rows l.rows l.place
