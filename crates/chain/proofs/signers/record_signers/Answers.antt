-- All items are open, so the tables tell the whole graph, and the records for it are those of the image.
use Rattle.chain.proofs.Recording.{whole-records}
use Rattle.chain.proofs.signers.record_signers.Goals as goal

pub returns : goal.returns
returns c =
    let p = c.requires in
    whole-records _ _ _ _ p.1 _ _ _ p.2 p.3 c.open_all.ensures.1
    (c.counting_lists-counting.ensures.0 p.2) (c.roles_of-roles.ensures.0 p.2) c.chains_to_all.ensures
