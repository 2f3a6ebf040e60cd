-- The table of the rounds tells the best chain, or that there is none; the tests before it leave no chain either.
use mathlib.Core.Path.{sym, ◌∙◌}
use Rattle.graph.specs.Answer.{none}
use Rattle.graph.proofs.Answers.{unreached, reached}
use Rattle.graph.proofs.RoundPaths.{round-searched, round-long}
use Rattle.graph.proofs.Targets.{too_many, no-such-place, no-signer}
use Rattle.graph.proofs.rounds.chain_by_rounds.Goals as goal
use Rattle.graph.proofs.rounds.chain_by_rounds.Goals.{
  then-places-gt96-via-then-places-gt96,
  then-places-gt96-via-else-places-gt96+then-places-target,
  then-places-gt96-via-else-places-gt96+else-places-target+then-octet-ne3,
}

pub returns-then-places-gt96 : goal.returns-then-places-gt96
returns-then-places-gt96 c =
    let a = c.args in
    none
    (elim c.then-places-gt96.branch [
      | then-places-gt96-via-then-places-gt96 w ↦ too_many a.places a.roles.now _ a.target w.if-places-gt96.true
      | then-places-gt96-via-else-places-gt96+then-places-target w ↦
          no-such-place a.places a.roles.now _ a.target w.if-places-gt96.false w.if-places-target.true
      | then-places-gt96-via-else-places-gt96+else-places-target+then-octet-ne3 w ↦
          no-signer a.places a.roles.now _ a.target (λ e. w.if-octet-ne3.true (w.octet.ensures ∙ e))
    ])
    c.no_chain.ensures

pub returns-then-length : goal.returns-then-length
returns-then-length c =
    let a = c.args in
    unreached a.places a.roles.now _ c.if-places-gt96.false (round-searched c.if-places-gt96.false c.distances-distance.ensures) c.if-length.true
    c.no_chain-then-length.ensures

pub returns : goal.returns
returns c =
    let a = c.args in
    let found = round-searched c.if-places-gt96.false c.distances-distance.ensures in
    reached a.places a.roles.now _ c.if-places-gt96.false found c.if-places-target.false
    (sym c.octet.ensures ∙ c.if-octet-ne3.false) c.if-length.false
    (round-long c.if-places-gt96.false c.distances-distance.ensures c.if-places-target.false) (c.read_off-slots.ensures found)
