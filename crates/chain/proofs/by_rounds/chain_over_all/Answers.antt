-- All items are open, so the tables tell the whole graph, and what the search answers for it is the answer.
use Rattle.usable.proofs.StepsMean.{cells-tell}
use Rattle.chain.proofs.WholeMeans.{whole-image}
use Rattle.chain.proofs.by_rounds.chain_over_all.Goals as goal

pub returns : goal.returns
returns c =
    let p = c.requires in
    whole-image _ _ _ _ _ p.1 _ _ _ _ p.2 c.open_all.ensures.1
    (c.counting_lists-counting.ensures.0 p.2) (c.roles_of-roles.ensures.0 p.2)
    (cells-tell _ _ _ _ _ c.matching_steps-steps.result c.matching_steps-steps.ensures) c.chain_by_rounds.ensures
