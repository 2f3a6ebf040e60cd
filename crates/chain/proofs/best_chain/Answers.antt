-- What the question is refused for is told, and else what the search found is shown.
use mathlib.Core.Path.{sym, ◌∙◌}
use Rattle.chain.specs.Answer.{refused}
use Rattle.chain.proofs.Answering.{asked-over, answering}
use Rattle.chain.proofs.best_chain.Goals as goal

pub chain_among-requires : goal.chain_among-requires
chain_among-requires c = asked-over _ _ _ _ (sym c.question.ensures ∙ c.in-Ok.is)

pub returns-in-Err : goal.returns-in-Err
returns-in-Err c = refused _ (sym c.question.ensures ∙ c.in-Err.is) c.refused.ensures

pub returns-in-Ok : goal.returns-in-Ok
returns-in-Ok c =
    answering _ _ _ _ (sym c.question.ensures ∙ c.in-Ok.is) c.chain_among.ensures c.shown.ensures
