-- The octets are those of the role.
use borrow.Author.Tests.{eq-eqb, ne_eqb}
use Rattle.certificate.specs.Rules.{usage_of}
use Rattle.certificate.proofs.rules.usage_good.Goals as goal

pub returns-then-role-eq3 : goal.returns-then-role-eq3
unfolding usage_of
returns-then-role-eq3 c = λ x h. rw (eq-eqb _ _ c.if-role-eq3.true) (c.critical_with.ensures x h)

pub returns : goal.returns
unfolding usage_of
returns c = λ x h. rw (ne_eqb _ _ c.if-role-eq3.false) (c.critical_with-2.ensures x h)
