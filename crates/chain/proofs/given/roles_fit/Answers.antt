-- The places so far have their roles, and the first that has not refuses.
use mathlib.Core.Path.{refl, sym, ◌∙◌}
use native.Mathlib.Omega.{arith}
use borrow.Author.Count.{below_more}
use Rattle.chain.specs.Given.{yes, no}
use Rattle.chain.proofs.given.roles_fit.Goals as goal

pub overflow_sub-end : goal.overflow_sub-end
overflow_sub-end c = omega (arith, c.requires.two)

pub loop-i-init : goal.loop-i-init
loop-i-init c = record { range = c.requires; all = refl; each = λ k h. absurd (omega arith) }

pub bounds-places-i : goal.bounds-places-i
bounds-places-i c = omega (arith, c.loop-i.invariant.all, c.loop-i-test.true)

pub overflow_cast-place : goal.overflow_cast-place
overflow_cast-place c = omega (arith, c.type_inv.places c.loop-i.i)

pub bounds-roles-place : goal.bounds-roles-place
bounds-roles-place c =
    let i = c.loop-i.invariant in
    omega (arith, i.range.inside c.loop-i.i (omega (arith, i.all, c.loop-i-test.true)))

pub returns-then-roles-place : goal.returns-then-roles-place
returns-then-roles-place c =
    no (λ fit. c.if-roles-place.true (fit c.loop-i.i (omega (arith, c.loop-i.invariant.all, c.loop-i-test.true)) ∙ sym c.role_asked.ensures))

pub loop-i-preserved : goal.loop-i-preserved
loop-i-preserved c =
    let i = c.loop-i.invariant in
    record {
      range = i.range;
      all = i.all;
      each = below_more _ c.loop-i.i i.each (c.if-roles-place.false ∙ c.role_asked.ensures);
    }

pub returns : goal.returns
returns c = let i = c.loop-i.invariant in yes (λ k h. i.each k (omega (arith, i.all, c.loop-i-test.false)))
