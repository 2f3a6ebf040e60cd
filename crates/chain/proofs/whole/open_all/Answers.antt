-- The rows of the places so far are told.
use mathlib.Core.Path.{refl}
use native.Mathlib.Omega.{arith}
use lib.ListN.{length-set}
use Rattle.usable.proofs.RowLaws.{row-set}
use Rattle.chain.proofs.whole.open_all.Goals as goal

pub loop-place-init : goal.loop-place-init
loop-place-init c =
    let p = c.requires in
    (p.0, p.1, p.2, p.3, record { before = λ k h. absurd (omega arith); behind = λ k h. refl })

pub open_place-requires : goal.open_place-requires
open_place-requires c = let i = c.loop-place.invariant in (i.0, omega (arith, i.1, c.loop-place-test.true))

pub offset_bounds-rows-place : goal.offset_bounds-rows-place
offset_bounds-rows-place c = omega (arith, c.loop-place.invariant.2, c.loop-place-test.true)

pub bounds-rows-place : goal.bounds-rows-place
bounds-rows-place c =
    let i = c.loop-place.invariant in
    omega (arith, i.2, i.3, c.loop-place-test.true)

pub loop-place-preserved : goal.loop-place-preserved
loop-place-preserved c =
    let l = c.loop-place in
    let i = l.invariant in
    let inside = c.loop-place-test.true in (
      i.0,
      i.1,
      i.2,
      rw length-set i.3,
      row-set _ i.4 (omega (arith, i.2, i.3, inside)) c.open_place.ensures,
    )

pub returns : goal.returns
returns c = let i = c.loop-place.invariant in (i.3, λ k h. i.4.before k (omega (arith, c.loop-place-test.false)))
