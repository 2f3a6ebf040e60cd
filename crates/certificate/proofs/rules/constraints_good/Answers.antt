-- A document signer has none; in the other roles its octets are told.
use mathlib.Core.Bool.{Bool, true, false, not}
use mathlib.Core.Path.{◌≡◌, sym, ◌∙◌}
use borrow.Author.Tests.{eq-eqb, ne_eqb}
use Rattle.certificate.specs.Rules.{constrained}
use Rattle.extensions.proofs.Slots.{there-present}
use Rattle.certificate.proofs.rules.constraints_good.Goals as goal

turned : (p r : Bool) → p ≡ not r → r ≡ not p
turned p true h = rw h
turned p false h = rw h

pub returns-then-role-eq3 : goal.returns-then-role-eq3
unfolding constrained
returns-then-role-eq3 c = λ x h. rw (eq-eqb _ _ c.if-role-eq3.true) (turned _ _ (sym (there-present x h) ∙ c.is_none.ensures))

pub returns : goal.returns
unfolding constrained
returns c = λ x h. rw (ne_eqb _ _ c.if-role-eq3.false) (c.critical_with.ensures x h)
