-- Each element is looked for where the one before it ended, and the last ends where the outermost does.
use mathlib.Core.Path.{sym, ◌∙◌}
use Rattle.elements.specs.Envelope.{envelope_of}
use Rattle.elements.proofs.Members.{on-none, on-found, kept_if}
use Rattle.elements.proofs.envelopes.envelope_of.Goals as goal

pub returns-in_err-outermost : goal.returns-in_err-outermost
unfolding envelope_of
returns-in_err-outermost c = on-none _ (sym c.any_tagged.ensures ∙ c.in_err-outermost.was) c.from_residual.ensures

pub returns-in_err-tbs : goal.returns-in_err-tbs
unfolding envelope_of
returns-in_err-tbs c =
    on-found _ _ (sym c.any_tagged.ensures ∙ c.in_ok-outermost.was)
    (on-none _ (sym c.any_tagged-2.ensures ∙ c.in_err-tbs.was) c.from_residual-in_err-tbs.ensures)

pub returns-in_err-algorithm : goal.returns-in_err-algorithm
unfolding envelope_of
returns-in_err-algorithm c =
    on-found _ _ (sym c.any_tagged.ensures ∙ c.in_ok-outermost.was)
    (on-found _ _ (sym c.any_tagged-2.ensures ∙ c.in_ok-tbs.was)
    (on-none _ (sym c.element_tagged.ensures ∙ c.in_err-algorithm.was) c.from_residual-in_err-algorithm.ensures))

pub returns-in_err-signature : goal.returns-in_err-signature
unfolding envelope_of
returns-in_err-signature c =
    on-found _ _ (sym c.any_tagged.ensures ∙ c.in_ok-outermost.was)
    (on-found _ _ (sym c.any_tagged-2.ensures ∙ c.in_ok-tbs.was)
    (on-found _ _ (sym c.element_tagged.ensures ∙ c.in_ok-algorithm.was)
    (on-none _ (sym c.element_tagged-2.ensures ∙ c.in_err-signature.was) c.from_residual-in_err-signature.ensures)))

pub returns : goal.returns
unfolding envelope_of
returns c =
    on-found _ _ (sym c.any_tagged.ensures ∙ c.in_ok-outermost.was)
    (on-found _ _ (sym c.any_tagged-2.ensures ∙ c.in_ok-tbs.was)
    (on-found _ _ (sym c.element_tagged.ensures ∙ c.in_ok-algorithm.was)
    (on-found _ _ (sym c.element_tagged-2.ensures ∙ c.in_ok-signature.was)
    (c.then_some.ensures ∙ kept_if _ _))))
