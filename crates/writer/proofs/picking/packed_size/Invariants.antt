use mathlib.Core.Path.{◌≡◌}
use lib.ListN.{length, take}
use Rattle.image.specs.Items.{packed}
use Rattle.writer.specs.Picking.{picked}
use Rattle.writer.proofs.picking.packed_size.Given as goal

-- the octets of the first items
abbrev pub invariant-loop-place : goal.invariant-loop-place
invariant-loop-place l = l.size ≡ length (packed (picked l.image (take l.place-index l.places)))
