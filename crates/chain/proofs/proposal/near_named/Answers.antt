-- The places so far are marked.
use native.Mathlib.Omega.{arith}
use lib.ListN.{length-set}
use Rattle.chain.proofs.Proposals.{marking-start, marking-set, marking-all}
use Rattle.chain.proofs.proposal.near_named.Goals as goal

pub loop-place-init : goal.loop-place-init
loop-place-init c = record { range = c.requires; slots = omega arith; marked = marking-start _ _ }

pub bounds-more-place : goal.bounds-more-place
bounds-more-place c = omega (arith, c.loop-place.invariant.range.inside c.loop-place.place-index c.loop-place-test.true)

pub loop-place-preserved : goal.loop-place-preserved
loop-place-preserved c =
    let i = c.loop-place.invariant in
    let here = c.loop-place-test.true in
    record {
      range = i.range;
      slots = rw length-set i.slots;
      marked = marking-set c.loop-place.place-index i.marked (omega (arith, i.slots, i.range.inside c.loop-place.place-index here));
    }

pub returns : goal.returns
returns c = let i = c.loop-place.invariant in marking-all i.marked (omega (arith, c.loop-place-test.false))
