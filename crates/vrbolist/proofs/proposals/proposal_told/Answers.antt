-- The answer is taken apart as it is defined to be told.
use Rattle.vrbolist.specs.Proposals.{proposal_told}
use Rattle.vrbolist.proofs.proposals.proposal_told.Goals as goal

pub returns-in-Ok : goal.returns-in-Ok
unfolding proposal_told
returns-in-Ok c = rw c.in-Ok.is

pub returns-in-Err : goal.returns-in-Err
unfolding proposal_told
returns-in-Err c = rw (c.in-Err.is, c.number.ensures, c.detail.ensures)
