-- Each test answers one of the definition's.
use borrow.Author.Tests.{le-leb, lt-leb}
use Rattle.chain.specs.Proposal.{range_good}
use Rattle.chain.proofs.proposal.range_good.Goals as goal
use Rattle.chain.proofs.proposal.range_good.Goals.{then-places-lt2-via-then-places-lt2, then-places-lt2-via-else-places-lt2+then-places-gt96}

pub returns-then-places-lt2 : goal.returns-then-places-lt2
unfolding range_good
returns-then-places-lt2 c =
    elim c.then-places-lt2.branch [
      | then-places-lt2-via-then-places-lt2 w ↦ rw (lt-leb _ _ w.if-places-lt2.true)
      | then-places-lt2-via-else-places-lt2+then-places-gt96 w ↦ rw (le-leb _ _ w.if-places-lt2.false, lt-leb _ _ w.if-places-gt96.true)
    ]

pub returns : goal.returns
unfolding range_good
returns c = rw (le-leb _ _ c.if-places-lt2.false, le-leb _ _ c.if-places-gt96.false) c.all_there.ensures
