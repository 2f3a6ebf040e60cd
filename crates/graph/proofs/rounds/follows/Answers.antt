-- Each test answers one law of the steps that are followed.
use borrow.Author.Tests.{eq-eqb, ne_eqb}
use mathlib.Core.Path.{sym, ◌∙◌}
use native.Mathlib.Omega.{arith}
use Prim.Native.Nat.{◌<◌}
use Rattle.graph.specs.Chains.{graph_of}
use Rattle.graph.specs.Search.{followed}
use Rattle.graph.proofs.Steps.{no_step, to-link, by-signer}
use Rattle.graph.proofs.rounds.follows.Goals as goal
use Rattle.graph.proofs.rounds.follows.Goals.{After-octet-2}

known : (c : After-octet-2) → c.args.u < c.args.places
known c = let d = c.if-u-places.false in let p = c.requires in omega arith

pub returns-then-u-places : goal.returns-then-u-places
unfolding followed
returns-then-u-places c = rw (eq-eqb _ _ c.if-u-places.true, c.octet.ensures)

pub overflow_mul-u : goal.overflow_mul-u
overflow_mul-u c = omega (arith, c.requires)

pub overflow_add-u : goal.overflow_add-u
overflow_add-u c = omega (arith, c.requires)

pub returns-then-octet-ne1 : goal.returns-then-octet-ne1
returns-then-octet-ne1 c =
    let a = c.args in
    let h = known (goal.at.returns-then-octet-ne1 c).After-octet-2 in
    sym (no_step a.places (graph_of a.places a.roles.now a.steps.now) h (ne_eqb _ _ (c.requires.fact h))
    (ne_eqb _ _ (λ e. let x = c.octet-2.ensures ∙ e in omega (arith, c.if-octet-ne1.true))))

pub returns-then-role-eq2 : goal.returns-then-role-eq2
returns-then-role-eq2 c =
    let a = c.args in
    let h = known (goal.at.returns-then-role-eq2 c).After-octet-2 in
    rw (eq-eqb _ _ c.if-role-eq2.true)
    (sym (to-link a.places (graph_of a.places a.roles.now a.steps.now) h (ne_eqb _ _ (c.requires.fact h))
    (eq-eqb _ _ (sym c.octet-role.ensures ∙ c.if-role-eq2.true)) (eq-eqb _ _ (sym c.octet-2.ensures ∙ c.if-octet-ne1.false))))

pub returns-else-role-eq2 : goal.returns-else-role-eq2
returns-else-role-eq2 c =
    let a = c.args in
    let h = known (goal.at.returns-else-role-eq2 c).After-octet-2 in
    rw c.octet-role.ensures
    (sym (by-signer a.places (graph_of a.places a.roles.now a.steps.now) h (ne_eqb _ _ (c.requires.fact h))
    (eq-eqb _ _ (sym c.octet-2.ensures ∙ c.if-octet-ne1.false)) (ne_eqb _ _ (λ e. c.if-role-eq2.false (c.octet-role.ensures ∙ e)))))
