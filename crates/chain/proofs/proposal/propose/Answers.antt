-- What the question is refused for is told, then the range, then what the tables decide.
use mathlib.Core.Path.{refl, sym, ◌∙◌}
use Rattle.std.proofs.lemmas.Result.{err_from_is_err_and}
use Rattle.chain.specs.Proposal.{refused, outside, accepted, unfounded}
use Rattle.chain.proofs.Answering.{asked-over}
use Rattle.chain.proofs.Proposals.{so, not_so, in-range}
use Rattle.chain.proofs.proposal.propose.Goals as goal

pub returns-then-not-range_good : goal.returns-then-not-range_good
returns-then-not-range_good c =
    outside (sym c.question.ensures ∙ c.in_ok-count.was) (sym c.range_good.ensures ∙ c.if-not-range_good.true) refl

pub good_chain-requires : goal.good_chain-requires
good_chain-requires c =
    let o = asked-over _ _ _ _ (sym c.question.ensures ∙ c.in_ok-count.was) in
    (o.0, o.1, o.2, o.3, o.4, in-range _ _ (sym c.range_good.ensures ∙ c.if-not-range_good.false))

pub returns-then-not-good_chain : goal.returns-then-not-good_chain
returns-then-not-good_chain c =
    unfounded (sym c.question.ensures ∙ c.in_ok-count.was) (sym c.range_good.ensures ∙ c.if-not-range_good.false)
    (not_so c.good_chain.ensures c.if-not-good_chain.true) refl

pub returns-in_err-count : goal.returns-in_err-count
returns-in_err-count c =
    let p = err_from_is_err_and c.from_residual.result c.from_residual.ensures.1 in
    refused c.in_err-count.field-0.0 (sym c.question.ensures ∙ c.in_err-count.was) (rw (p.1, p.2))

pub returns : goal.returns
returns c =
    accepted (sym c.question.ensures ∙ c.in_ok-count.was) (sym c.range_good.ensures ∙ c.if-not-range_good.false)
    (so c.good_chain.ensures c.if-not-good_chain.false) refl
