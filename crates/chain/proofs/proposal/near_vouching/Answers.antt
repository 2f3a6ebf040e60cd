-- The anchors so far are asked.
use native.Mathlib.Omega.{arith}
use lib.ListN.{length-set}
use Rattle.chain.proofs.Proposals.{asking-start, asking-set, asking-left, asking-all}
use Rattle.chain.proofs.proposal.near_vouching.Goals as goal
use Rattle.chain.proofs.proposal.near_vouching.Goals.{
  then-near-u-eq2+then-vouches,
  else-near-u-eq2,
  else-near-u-eq2-via-then-near-u-eq2+else-vouches,
  else-near-u-eq2-via-else-near-u-eq2,
}

pub loop-u-init : goal.loop-u-init
loop-u-init c = (c.requires, omega arith, asking-start _ _ _ _)

pub bounds-near-u : goal.bounds-near-u
bounds-near-u c = omega (arith, c.loop-u.invariant.0, c.loop-u-test.true)

pub vouches-requires : goal.vouches-requires
vouches-requires c = (c.loop-u.invariant.0, c.loop-u-test.true)

pub bounds-more-u : goal.bounds-more-u
bounds-more-u c =
    omega (arith, c.loop-u.invariant.0, c.loop-u-test.true)

pub loop-u-preserved : goal.loop-u-preserved
loop-u-preserved c =
    let l = c.loop-u in
    let (small, room, asking) = l.invariant in
    let inside = c.loop-u-test.true in (
      small,
      elim c.if-near-u-eq2.branch [
        | then-near-u-eq2+then-vouches w ↦ rw (w.more-is, length-set) room
        | else-near-u-eq2 w ↦ rw w.more-is room
      ],
      elim c.if-near-u-eq2.branch [
        | then-near-u-eq2+then-vouches w ↦ rw w.more-is (asking-set l.u asking (omega (arith, room, small, inside)))
        | else-near-u-eq2 w ↦
            rw w.more-is
            (asking-left l.u asking
            (elim w.else-near-u-eq2.branch [
              | else-near-u-eq2-via-then-near-u-eq2+else-vouches x ↦ λ two. x.vouches.ensures x.if-vouches.false
              | else-near-u-eq2-via-else-near-u-eq2 x ↦ λ two. absurd (x.if-near-u-eq2.false two)
            ]))
      ],
    )

pub returns : goal.returns
returns c = asking-all c.loop-u.invariant.2 (omega (arith, c.loop-u-test.false))
