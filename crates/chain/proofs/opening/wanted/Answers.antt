-- Each test answers one of the definition's.
use mathlib.Core.Path.{sym, ◌∙◌}
use borrow.Author.Tests.{eq-eqb, ne_eqb, eqb-true}
use Rattle.chain.proofs.Homes.{home_same}
use Rattle.chain.proofs.HomeScope.{wanted-signed, wanted-third, wanted-silent, wanted-home}
use Rattle.chain.proofs.opening.wanted.Goals as goal
use Rattle.chain.proofs.opening.wanted.Goals.{
  then-kind-eq2-via-then-kind-eq2,
  then-kind-eq2-via-else-kind-eq2+then-kind-eq3,
  else-kind-eq1-via-then-kind-eq1+else-not-speaks_up,
  else-kind-eq1-via-else-kind-eq1,
}

pub returns-then-kind-eq2 : goal.returns-then-kind-eq2
returns-then-kind-eq2 c items kind bytes =
    sym
    (elim c.then-kind-eq2.branch [
      | then-kind-eq2-via-then-kind-eq2 w ↦ wanted-signed _ _ _ _ items _ _ kind (eq-eqb _ _ w.if-kind-eq2.true)
      | then-kind-eq2-via-else-kind-eq2+then-kind-eq3 w ↦
          wanted-third _ _ _ _ items _ _ kind (ne_eqb _ _ w.if-kind-eq2.false) (eq-eqb _ _ w.if-kind-eq3.true)
    ])

pub speaks_up-requires : goal.speaks_up-requires
speaks_up-requires c = c.requires

pub returns-then-not-speaks_up : goal.returns-then-not-speaks_up
returns-then-not-speaks_up c items kind bytes =
    sym
    (wanted-silent _ _ _ _ items _ _ kind (ne_eqb _ _ c.if-kind-eq2.false) (ne_eqb _ _ c.if-kind-eq3.false) (eq-eqb _ _ c.if-kind-eq1.true)
    (sym c.speaks_up.ensures ∙ c.if-not-speaks_up.true))

pub returns : goal.returns
returns c items kind bytes =
    c.of_country.ensures _ _ _ ∙ home_same _ _ _ _ _ kind bytes
    ∙ sym
    (wanted-home _ _ _ _ items _ _ kind (ne_eqb _ _ c.if-kind-eq2.false) (ne_eqb _ _ c.if-kind-eq3.false)
    (λ one.
    elim c.else-kind-eq1.branch [
      | else-kind-eq1-via-then-kind-eq1+else-not-speaks_up w ↦ sym w.speaks_up.ensures ∙ w.if-not-speaks_up.false
      | else-kind-eq1-via-else-kind-eq1 w ↦ absurd (w.if-kind-eq1.false (eqb-true _ _ one))
    ]))
