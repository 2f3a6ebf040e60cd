-- The slots of the places so far are told.
use mathlib.Core.Path.{◌≡◌, refl}
use native.Mathlib.Omega.{arith}
use lib.ListN.{length-set}
use Rattle.usable.proofs.Slots.{empty-slots, slot-set}
use Rattle.chain.proofs.near.with_links.Goals as goal

pub loop-place-init : goal.loop-place-init
loop-place-init c = (refl, record { before = λ c h. absurd (omega arith); behind = λ c h. empty-slots 96 c })

pub bounds-near-place : goal.bounds-near-place
bounds-near-place c = omega (arith, c.requires, c.loop-place-test.true)

pub bounds-more-place : goal.bounds-more-place
bounds-more-place c = omega (arith, c.requires, c.loop-place-test.true)

pub loop-place-preserved : goal.loop-place-preserved
loop-place-preserved c =
    let inv = c.loop-place.invariant in
    (rw length-set inv.0, slot-set inv.1 (omega (arith, inv.0, c.requires, c.loop-place-test.true)) c.marked.ensures)

pub returns : goal.returns
returns c =
    let all : c.loop-place.place ≡ c.args.places = omega (arith, c.loop-place-test.false, c.loop-place.auto.place-end) in
    λ k h. c.loop-place.invariant.1.before k (omega arith)
