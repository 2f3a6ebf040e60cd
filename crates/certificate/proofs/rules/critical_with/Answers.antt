-- The flag is tested, then the contents are compared.
use mathlib.Core.Path.{◌∙◌}
use borrow.Author.Tests.{not-true, not-false}
use Rattle.certificate.proofs.Held.{critical-none, critical-same, critical-not}
use Rattle.certificate.proofs.rules.critical_with.Goals as goal

pub returns-in_default : goal.returns-in_default
returns-in_default c = λ x h. critical-none _ _ x h c.in_default.is

pub returns-then-not-own : goal.returns-then-not-own
returns-then-not-own c = λ x h. critical-not _ c.in-Some.is _ x h (not-true _ c.if-not-own.true)

pub returns : goal.returns
returns c = λ x h. c.holds.ensures ∙ critical-same _ c.in-Some.is c.value_of.ensures _ x h (not-false _ c.if-not-own.false)
