-- Of more than 96 places none is in a chain, and else the tables of the search have the answer.
use Rattle.graph.specs.Answer.{none}
use Rattle.graph.proofs.Targets.{too_many}
use Rattle.search.proofs.Traces.{paths}
use Rattle.search.proofs.chain_to.Goals as goal

pub returns-then-places-gt96 : goal.returns-then-places-gt96
returns-then-places-gt96 c =
    let a = c.args in
    none (too_many a.places a.roles.now _ a.target c.if-places-gt96.true) c.no_chain.ensures

pub chain_in-requires : goal.chain_in-requires
chain_in-requires c = record { places_bound = c.if-places-gt96.false; paths = paths c.search.ensures }

pub returns : goal.returns
returns c = c.chain_in.ensures.0 _ c.search.ensures
