-- In the last round all links, else a layer more.
use Rattle.chain.proofs.Layers.{links-wider, layer-wider}
use Rattle.chain.proofs.near.near_next.Goals as goal

pub returns-then-round-eq-LAST : goal.returns-then-round-eq-LAST
returns-then-round-eq-LAST c = links-wider _ _ _ _ _ _ c.with_links.ensures

pub returns : goal.returns
returns c = layer-wider c.if-round-eq-LAST.false c.with_signers.ensures
