-- Each test answers one of the definition's.
use borrow.Author.Tests.{eq-eqb, ne_eqb}
use Rattle.usable.specs.Country.{is_of}
use Rattle.usable.proofs.countries.is_of.Goals as goal

pub returns-in_default : goal.returns-in_default
unfolding is_of
returns-in_default c = simp c.in_default.is

pub returns-else-a-first : goal.returns-else-a-first
unfolding is_of
returns-else-a-first c = simp (c.in-Some.is, ne_eqb _ _ c.if-a-first.false)

pub returns-then-a-first : goal.returns-then-a-first
unfolding is_of
returns-then-a-first c = simp (c.in-Some.is, eq-eqb _ _ c.if-a-first.true)
