-- The answer that is told is the one that was asked for.
use Rattle.vrbolist.specs.Proposals.{weighed}
use Rattle.vrbolist.proofs.proposals.vrbolist_proposal.Goals as goal

pub returns : goal.returns
returns c = weighed _ c.propose.ensures c.proposal_told.ensures
