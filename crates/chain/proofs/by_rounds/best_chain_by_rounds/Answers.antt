-- What the question is refused for is told, and else what the search found is shown.
use mathlib.Core.Path.{sym, ◌∙◌}
use Rattle.chain.specs.Answer.{refused}
use Rattle.chain.proofs.Answering.{asked-over, answering}
use Rattle.chain.proofs.by_rounds.best_chain_by_rounds.Goals as goal

pub chain_over_all-requires : goal.chain_over_all-requires
chain_over_all-requires c =
    let o = asked-over _ _ _ _ (sym c.question.ensures ∙ c.in-Ok.is) in
    (o.0, o.1, o.2)

pub returns-in-Err : goal.returns-in-Err
returns-in-Err c = refused _ (sym c.question.ensures ∙ c.in-Err.is) c.refused.ensures

pub returns-in-Ok : goal.returns-in-Ok
returns-in-Ok c =
    answering _ _ _ _ (sym c.question.ensures ∙ c.in-Ok.is) c.chain_over_all.ensures c.shown.ensures
