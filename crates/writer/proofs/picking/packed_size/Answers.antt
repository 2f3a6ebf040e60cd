-- One item more.
use Prim.Native.Nat.{◌+◌, ◌*◌, ◌≤◌}
use native.Mathlib.Nat.{mul-le-mul}
use mathlib.Core.Path.{◌≡◌, refl}
use native.Mathlib.Omega.{arith}
use lib.ListN.{length, take, length-append}
use Rattle.image.specs.Items.{packed}
use Rattle.writer.specs.Picking.{picked}
use Rattle.writer.proofs.Picked.{packed-more, packed_within, picked-few}
use Rattle.writer.proofs.picking.packed_size.Goals as goal
use Rattle.writer.proofs.picking.packed_size.Goals.{After-item}

next : (c : After-item) →
    let s = c.args.image.now in
    let l = c.args.places.now in
    c.loop-place.size + length c.item.result.now ≡ length (packed (picked s (take (c.loop-place.place-index + 1) l)))
next c =
    let more = packed-more c.args.image.now c.args.places.now c.loop-place.place-index c.loop-place-test.true in
    rw (more, length-append, ← c.item.ensures, ← c.loop-place.invariant) refl

pub loop-place-init : goal.loop-place-init
unfolding picked packed
loop-place-init c = refl

pub overflow_add-size : goal.overflow_add-size
overflow_add-size c =
    let s = c.args.image.now in
    let l = c.args.places.now in
    let within = packed_within s l c.loop-place.place-index c.loop-place-test.true in
    let most : length s * length l ≤ 262144 * 96 = mul-le-mul c.requires.0 c.requires.1 in
    omega (arith, next (goal.at.overflow_add-size c).After-item, within, picked-few s l, most)

pub loop-place-preserved : goal.loop-place-preserved
loop-place-preserved c = next (goal.at.loop-place-preserved c).After-item
