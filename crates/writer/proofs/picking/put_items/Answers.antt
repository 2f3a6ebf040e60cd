-- One item more, behind those before it.
use Prim.Native.Nat.{◌+◌}
use mathlib.Core.Path.{◌≡◌, refl, sym}
use native.Mathlib.Omega.{arith}
use lib.ListN.{length, take, length-append, length-take, length-drop}
use Rattle.image.specs.Items.{packed}
use Rattle.writer.specs.Picking.{picked}
use Rattle.writer.proofs.Picked.{packed-more, packed_within}
use Rattle.writer.proofs.Stores.{put_next}
use Rattle.writer.proofs.picking.put_items.Goals as goal
use Rattle.writer.proofs.picking.put_items.Goals.{After-item-item}

next : (c : After-item-item) →
    let s = c.args.image.now in
    let l = c.args.places.now in
    c.loop-place.at + length c.item-item.result.now ≡ length (packed (picked s (take (c.loop-place.place-index + 1) l)))
next c =
    let more = packed-more c.args.image.now c.args.places.now c.loop-place.place-index c.loop-place-test.true in
    rw (more, length-append, ← c.item-item.ensures, ← c.loop-place.invariant.long) refl

pub loop-place-init : goal.loop-place-init
unfolding picked packed
loop-place-init c = record { long = refl; put = refl }

pub copy-requires : goal.copy-requires
copy-requires c =
    let s = c.args.image.now in
    let l = c.args.places.now in
    let within = packed_within s l c.loop-place.place-index c.loop-place-test.true in
    simp (length-take, length-drop) (omega (arith, next (goal.at.copy-requires c).After-item-item, within, c.requires, c.loop-place.auto.out))

pub loop-place-preserved : goal.loop-place-preserved
loop-place-preserved c =
    let s = c.args.image.now in
    let l = c.args.places.now in
    let now = c.loop-place in
    let item = c.item-item.result.now in
    let more = packed-more s l now.place-index c.loop-place-test.true in
    record {
      long = next (goal.at.loop-place-preserved c).After-item-item;
      put = rw (more, ← c.item-item.ensures) (put_next c.args.out.now (packed (picked s (take now.place-index l))) item _ _ now.at (length item) (sym now.invariant.long) now.invariant.put c.copy.ensures);
    }
