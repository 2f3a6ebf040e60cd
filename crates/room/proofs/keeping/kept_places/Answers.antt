-- Each turn adds the place to those found if its item stays, and else nothing.
use Prim.Native.Nat.{◌<◌, ◌≤◌}
use mathlib.Core.Path.{refl, sym, ap, ◌∙◌}
use native.Mathlib.Omega.{arith}
use lib.ListN.{length}
use lib.ListN as lists
use lib.Seq.{take_at}
use Rattle.image.specs.Index.{entry_count}
use Rattle.image.proofs.Choosing.{start, skip, take, all_found}
use Rattle.room.proofs.keeping.kept_places.Goals as goal
use Rattle.room.proofs.keeping.kept_places.Goals.{then-place_stays, else-place_stays}

pub loop-place-init : goal.loop-place-init
loop-place-init c = start _ _ _ refl (omega (arith, c.entries-place-end.ensures.count, c.entries-place-end.ensures.few))

pub loop-place-preserved : goal.loop-place-preserved
loop-place-preserved c =
    let t = c.loop-place.invariant in
    let inside : c.loop-place.place < entry_count c.args.image.now = omega (arith, c.entries-place-end.ensures.count) in
    elim c.if-place_stays.branch [
      | then-place_stays w ↦ rw (w.places-is, w.count-is) (take t inside c.place_stays.ensures w.if-place_stays.true)
      | else-place_stays w ↦ rw (w.places-is, w.count-is) (skip t inside c.place_stays.ensures w.if-place_stays.false)
    ]

pub returns : goal.returns
returns c =
    let inv = c.loop-place.invariant in
    let past : entry_count c.args.image.now ≤ c.loop-place.place = omega (arith, c.entries-place-end.ensures.count) in
    let all = all_found inv past in (
      inv.many ∙ ap length all,
      omega (arith, inv.fewer, inv.inside, inv.small),
      ap (lists.take c.loop-place.count) inv.slots ∙ take_at inv.found _ c.loop-place.count (sym inv.many) ∙ all,
    )
