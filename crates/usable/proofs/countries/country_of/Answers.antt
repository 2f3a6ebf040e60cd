-- The kind decides.
use borrow.Author.Tests.{eq-eqb, ne_eqb}
use Rattle.usable.specs.Country.{country_of}
use Rattle.usable.proofs.countries.country_of.Goals as goal

pub returns-then-kind-eq4 : goal.returns-then-kind-eq4
unfolding country_of
returns-then-kind-eq4 c flags a b = rw (eq-eqb _ _ c.if-kind-eq4.true) c.country.ensures

pub returns : goal.returns
unfolding country_of
returns c flags a b = rw (ne_eqb _ _ c.if-kind-eq4.false) c.country-2.ensures
