-- Each turn adds the place to those found if it is asked for, and else nothing.
use Prim.Native.Nat.{◌<◌, ◌≤◌}
use mathlib.Core.Path.{◌≡◌, refl}
use native.Mathlib.Omega.{arith}
use lib.ListN.{get_or}
use Rattle.image.specs.Index.{entry_count, entry_in}
use Rattle.image.proofs.Choosing.{start, skip, take}
use Rattle.anchors.proofs.Tests.{other-kind}
use Rattle.anchors.proofs.Turns.{end_of}
use Rattle.anchors.proofs.among.Goals as goal
use Rattle.anchors.proofs.among.Goals.{then-kinds-place-eq1+then-asked_for, else-kinds-place-eq1, else-kinds-place-eq1-via-then-kinds-place-eq1+else-asked_for, else-kinds-place-eq1-via-else-kinds-place-eq1}

pub loop-place-init : goal.loop-place-init
loop-place-init c = start _ _ _ refl (omega (arith, c.entries-place-end.ensures.count, c.entries-place-end.ensures.few))

pub loop-place-preserved : goal.loop-place-preserved
loop-place-preserved c =
    let place = c.loop-place.place in
    let s = c.args.image.now in
    let t = c.loop-place.invariant in
    let inside : place < entry_count s = omega (arith, c.entries-place-end.ensures.count) in
    let few : place < 96 = omega (arith, c.entries-place-end.ensures.few) in
    let kind : get_or c.kinds-kinds.result place 0 ≡ (entry_in s place).kind = c.kinds-kinds.ensures place few in
    elim c.if-kinds-place-eq1.branch [
      | then-kinds-place-eq1+then-asked_for w ↦ rw (w.places-is, w.count-is) (take t inside w.asked_for.ensures w.if-asked_for.true)
      | else-kinds-place-eq1 w ↦
          rw (w.places-is, w.count-is)
          (elim w.else-kinds-place-eq1.branch [
            | else-kinds-place-eq1-via-then-kinds-place-eq1+else-asked_for v ↦ skip t inside v.asked_for.ensures v.if-asked_for.false
            | else-kinds-place-eq1-via-else-kinds-place-eq1 v ↦ skip t inside (other-kind _ _ kind _ _ _ λ e. v.if-kinds-place-eq1.false (omega (arith, e, few))) refl
          ])
    ]

pub returns : goal.returns
returns c =
    let past : entry_count c.args.image.now ≤ c.loop-place.place = omega (arith, c.entries-place-end.ensures.count) in
    end_of c.loop-place.invariant past
