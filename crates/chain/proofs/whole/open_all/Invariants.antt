use Prim.Native.Nat.{◌≤◌}
use mathlib.Core.Path.{◌≡◌}
use lib.ListN.{length}
use Rattle.image.specs.Index.{entry_count, version_in, items_in}
use Rattle.usable.specs.Items.{item_at}
use Rattle.usable.specs.Rows.{row_of}
use Rattle.usable.proofs.RowLaws.{Rewritten}
use Rattle.chain.specs.Rounds.{starts_in}
use Rattle.chain.proofs.whole.open_all.Given as goal

abbrev pub invariant-loop-place : goal.invariant-loop-place
invariant-loop-place l =
    (l.version ≡ version_in l.image) × (l.places ≡ entry_count l.image) × (l.places ≤ 96) × (length l.rows ≡ 96)
    × Rewritten (λ p. row_of l.moment (item_at (items_in l.image) p) (starts_in l.image p)) l.initial.rows l.rows l.place
