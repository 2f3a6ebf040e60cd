-- The answer is taken apart as it is defined to be told.
use Rattle.vrbolist.specs.Chains.{outcome_number, outcome_detail, chain_told}
use Rattle.vrbolist.proofs.chains.chain_told.Goals as goal

pub returns-in-Shown : goal.returns-in-Shown
unfolding chain_told outcome_number outcome_detail
returns-in-Shown c = rw c.in-Shown.is

pub returns-in-Refused : goal.returns-in-Refused
unfolding chain_told outcome_number outcome_detail
returns-in-Refused c = rw (c.in-Refused.is, c.number.ensures, c.detail.ensures)
