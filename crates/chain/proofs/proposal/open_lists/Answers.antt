-- The slots of the places so far are told.
use mathlib.Core.Path.{refl}
use native.Mathlib.Omega.{arith}
use lib.ListN.{length-set}
use Rattle.usable.specs.Rows.{row_at}
use Rattle.usable.proofs.Slots.{empty-slots, slot-set}
use Rattle.chain.specs.Given.{list_of}
use Rattle.chain.proofs.proposal.open_lists.Goals as goal

pub loop-place-init : goal.loop-place-init
loop-place-init c = (c.requires, refl, record { before = λ c h. absurd (omega arith); behind = λ c h. empty-slots 96 c })

pub offset_bounds-rows-place : goal.offset_bounds-rows-place
offset_bounds-rows-place c = omega (arith, c.loop-place.invariant.0, c.loop-place-test.true)

pub bounds-rows-place : goal.bounds-rows-place
bounds-rows-place c = omega (arith, c.loop-place.invariant.0, c.loop-place-test.true)

pub bounds-lists-place : goal.bounds-lists-place
bounds-lists-place c = omega (arith, c.loop-place.invariant.0, c.loop-place-test.true)

pub loop-place-preserved : goal.loop-place-preserved
unfolding list_of row_at
loop-place-preserved c =
    let inv = c.loop-place.invariant in
    let inside = c.loop-place-test.true in
    (inv.0, rw length-set inv.1, slot-set inv.2 (omega (arith, inv.0, inv.1, inside)) refl)

pub returns : goal.returns
returns c = λ k h. c.loop-place.invariant.2.before k (omega (arith, c.loop-place-test.false))
