-- One entry more, behind those before it.
use Prim.Native.Nat.{◌+◌, ◌*◌}
use mathlib.Core.Path.{◌≡◌, refl, ap₂, sym, ◌∙◌}
use native.Mathlib.Omega.{arith}
use lib.Seq.{length-take-le}
use lib.ListN.{length, take, length-append}
use Rattle.image.specs.Items.{packed, index_bytes, entry_bytes}
use Rattle.image.proofs.Sizes.{length-index}
use Rattle.writer.specs.Picking.{picked}
use Rattle.writer.proofs.PickedAnswers.{picked-many}
use Rattle.writer.proofs.Picked.{packed-more, index-more, packed_within}
use Rattle.writer.proofs.Stores.{put_next}
use Rattle.writer.proofs.picking.put_entries.Goals as goal
use Rattle.writer.proofs.picking.put_entries.Goals.{After-item-size}

next : (c : After-item-size) →
    let s = c.args.image.now in
    let l = c.args.places.now in
    c.loop-place.offset + length c.item-size.result.now ≡ length (packed (picked s (take (c.loop-place.place-index + 1) l)))
next c =
    let more = packed-more c.args.image.now c.args.places.now c.loop-place.place-index c.loop-place-test.true in
    rw (more, length-append, ← c.item-size.ensures, ← c.loop-place.invariant.sum) refl

pub loop-place-init : goal.loop-place-init
unfolding picked packed index_bytes
loop-place-init c = record { long = omega arith; sum = refl; put = refl }

pub overflow_cast-e : goal.overflow_cast-e
overflow_cast-e c = omega (arith, c.entry-e.ensures.octets.0)

pub overflow_cast-e-in-loop-place : goal.overflow_cast-e-in-loop-place
overflow_cast-e-in-loop-place c = omega (arith, c.entry-e.ensures.octets.1)

pub overflow_add-offset : goal.overflow_add-offset
overflow_add-offset c =
    let within = packed_within c.args.image.now c.args.places.now c.loop-place.place-index c.loop-place-test.true in
    omega (arith, next (goal.at.overflow_add-offset c).After-item-size, within, c.requires.0)

pub loop-place-preserved : goal.loop-place-preserved
loop-place-preserved c =
    let s = c.args.image.now in
    let l = c.args.places.now in
    let now = c.loop-place in
    let i = now.place-index in
    let version = c.version-version.result in
    let e = c.entry-e.result in
    let index = index_bytes version 0 (picked s (take i l)) in
    let entry = entry_bytes version e.kind e.flags (length c.item-size.result.now) now.offset e.first e.second in
    let few : length (take i l) ≡ i = length-take-le i l (omega (arith, c.loop-place-test.true)) in
    let long : length index ≡ now.at =
    length-index version 0 (picked s (take i l)) ∙ ap₂ ◌*◌ (sym c.width-wide.ensures) (picked-many s (take i l) ∙ few) ∙ sym now.invariant.long in
    let put = put_next c.args.out.now index entry _ _ now.at c.width-wide.result long now.invariant.put (rw (← c.width-wide.ensures) at c.put_entry.ensures) in
    record {
      long = omega (arith, now.invariant.long);
      sum = next (goal.at.loop-place-preserved c).After-item-size;
      put = rw (index-more s l i c.loop-place-test.true version, ← c.item-size.ensures, ← c.entry-e.ensures.own, ← now.invariant.sum) put;
    }
