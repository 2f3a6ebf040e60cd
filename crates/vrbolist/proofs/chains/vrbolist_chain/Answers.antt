-- The answer that is told is the one that was asked for.
use Rattle.vrbolist.specs.Chains.{forwarded}
use Rattle.vrbolist.proofs.chains.vrbolist_chain.Goals as goal

pub returns : goal.returns
returns c = forwarded _ c.best_chain.ensures c.chain_told.ensures
