-- The extensions before `at` are told by the two flags; those from `at` on are left.
use mathlib.Core.Bool.{false}
use mathlib.Core.Path.{refl, sym, ◌∙◌}
use native.Mathlib.Omega.{arith}
use Rattle.elements.proofs.Members.{found_within}
use Rattle.extensions.proofs.Places.{beyond}
use Rattle.extensions.proofs.Outlining.{shape-start, mark-start, shape-end, mark-end, shape_on, mark_on, shape-plain, mark-plain}
use Rattle.extensions.proofs.outline.outline_of.Goals as goal

pub loop-at-init : goal.loop-at-init
loop-at-init c = (shape-start _ _, mark-start _ _ false)

pub loop-at-smaller-in-Some : goal.loop-at-smaller-in-Some
loop-at-smaller-in-Some c = let m = c.in-Some.ensures in omega (arith, m.ends, found_within _ _ _ m.found)

pub loop-at-preserved-in-Some : goal.loop-at-preserved-in-Some
loop-at-preserved-in-Some c =
    let m = c.in-Some.ensures in
    let known = c.loop-at.invariant in
    (shape-plain m known.0, mark-plain m known.1)

pub returns-in_default-element_at : goal.returns-in_default-element_at
returns-in_default-element_at c =
    let none = sym c.element_at.ensures ∙ c.in_default-element_at.is in
    let known = c.loop-at.invariant in
    (shape-end none known.0, mark-end none known.1)

pub loop-at-smaller : goal.loop-at-smaller
loop-at-smaller c = omega (arith, found_within _ _ _ (sym c.element_at.ensures ∙ c.in-Some-element_at.is))

pub loop-at-preserved : goal.loop-at-preserved
loop-at-preserved c =
    let found = sym c.element_at.ensures ∙ c.in-Some-element_at.is in
    let known = c.loop-at.invariant in (
      shape_on found refl known.0 (rw (← c.any_extension-own.ensures) c.is_there-shaped.ensures),
      mark_on found refl known.1 (rw (← c.any_extension-own.ensures) (c.is_critical-marked.ensures _)),
    )

pub returns : goal.returns
returns c =
    let none = beyond _ c.loop-at-test.false in
    let known = c.loop-at.invariant in
    (shape-end none known.0, mark-end none known.1)
