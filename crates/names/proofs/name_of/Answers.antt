-- The SETs from here on, with the countryNames seen before them, come to what the whole name comes to.
use mathlib.Core.Path.{sym, ◌∙◌}
use native.Mathlib.Omega.{arith}
use borrow.Author.Tests.{eq-eqb, ne_eqb}
use Rattle.elements.specs.Elements.{inside}
use Rattle.names.specs.Names.{name_of}
use Rattle.names.specs.Fast.{one_set_more}
use Rattle.elements.proofs.Members.{found_within}
use Rattle.names.proofs.Sets.{sets-done, sets-bad, sets_more, sets-alone}
use Rattle.names.proofs.name_of.Goals as goal

pub returns-then-e-ne48 : goal.returns-then-e-ne48
unfolding name_of
returns-then-e-ne48 c = simp (ne_eqb _ _ c.if-e-ne48.true)

pub loop-set-init : goal.loop-set-init
unfolding name_of inside
loop-set-init c = simp (eq-eqb _ _ c.if-e-ne48.false)

pub loop-set-smaller-in-Some-country : goal.loop-set-smaller-in-Some-country
loop-set-smaller-in-Some-country c = let p = c.in-Some.ensures in omega (arith, p.ends, found_within _ _ _ p.found)

pub loop-set-preserved-in-Some-country : goal.loop-set-preserved-in-Some-country
unfolding one_set_more
loop-set-preserved-in-Some-country c =
    rw c.one_more-seen.ensures (sym (sets-alone _ _ _ _ c.in-Some.ensures c.in-Some-country.is) ∙ c.loop-set.invariant)

pub loop-set-smaller-in_default-country : goal.loop-set-smaller-in_default-country
loop-set-smaller-in_default-country c = let p = c.in-Some.ensures in omega (arith, p.ends, found_within _ _ _ p.found)

pub loop-set-preserved-in_default-country : goal.loop-set-preserved-in_default-country
unfolding one_set_more
loop-set-preserved-in_default-country c = sym (sets-alone _ _ _ _ c.in-Some.ensures c.in_default-country.is) ∙ c.loop-set.invariant

pub returns-in_default-element_at : goal.returns-in_default-element_at
returns-in_default-element_at c =
    sym (sets-done _ _ _ _ (sym c.element_at.ensures ∙ c.in_default-element_at.is)) ∙ c.loop-set.invariant

pub returns-in_err-seen : goal.returns-in_err-seen
returns-in_err-seen c =
    c.from_residual.ensures
    ∙ (sym (sets-bad _ _ _ _ (sym c.element_at.ensures ∙ c.in-Some-element_at.is) (sym c.set_of.ensures ∙ c.in_err-seen.was)) ∙ c.loop-set.invariant)

pub loop-set-smaller : goal.loop-set-smaller
loop-set-smaller c = omega (arith, found_within _ _ _ (sym c.element_at.ensures ∙ c.in-Some-element_at.is))

pub loop-set-preserved : goal.loop-set-preserved
loop-set-preserved c =
    sym (sets_more _ _ _ _ (sym c.element_at.ensures ∙ c.in-Some-element_at.is) (sym c.set_of.ensures ∙ c.in_ok-seen.was)) ∙ c.loop-set.invariant
