-- The members before `at` have a slot or are no extensions; those from `at` on are left.
use mathlib.Core.Path.{refl, sym, ◌∙◌}
use native.Mathlib.Omega.{arith}
use Rattle.elements.proofs.Members.{found_within}
use Rattle.extensions.specs.Strange.{met, none}
use Rattle.extensions.proofs.Slotless.{strange-none, strange-passed, strange-absent, strange-skip, strange-met}
use Rattle.extensions.proofs.stranger.stranger_from.Goals as goal

pub loop-passed-init : goal.loop-passed-init
loop-passed-init c = (omega arith, refl)

pub loop-passed-smaller-in-Some : goal.loop-passed-smaller-in-Some
loop-passed-smaller-in-Some c = let m = c.in-Some.ensures in omega (arith, m.ends, found_within _ _ _ m.found)

pub loop-passed-preserved-in-Some : goal.loop-passed-preserved-in-Some
loop-passed-preserved-in-Some c =
    let m = c.in-Some.ensures in
    (omega (arith, m.ends, found_within _ _ _ m.found), c.loop-passed.invariant.1 ∙ strange-passed _ _ _ m)

pub returns-in_err-e : goal.returns-in_err-e
returns-in_err-e c =
    rw c.from_residual.ensures (none (c.loop-passed.invariant.1 ∙ strange-none _ _ _ (sym c.element_at.ensures ∙ c.in_err-e.was)))

pub loop-passed-smaller-in_default-own : goal.loop-passed-smaller-in_default-own
loop-passed-smaller-in_default-own c = omega (arith, found_within _ _ _ (sym c.element_at.ensures ∙ c.in_ok-e.was))

pub loop-passed-preserved-in_default-own : goal.loop-passed-preserved-in_default-own
loop-passed-preserved-in_default-own c =
    let was = c.loop-passed.invariant in
    let found = sym c.element_at.ensures ∙ c.in_ok-e.was in (
      omega (arith, found_within _ _ _ found, was.0),
      was.1
          ∙ strange-absent _ _ _ found c.any_extension-own.ensures c.in_default-own.is,
    )

pub loop-passed-smaller : goal.loop-passed-smaller
loop-passed-smaller c = omega (arith, found_within _ _ _ (sym c.element_at.ensures ∙ c.in_ok-e.was))

pub loop-passed-preserved : goal.loop-passed-preserved
loop-passed-preserved c =
    let was = c.loop-passed.invariant in
    let found = sym c.element_at.ensures ∙ c.in_ok-e.was in (
      omega (arith, found_within _ _ _ found, was.0),
      was.1
          ∙ strange-skip _ _ _ found c.any_extension-own.ensures c.slot_of.ensures c.if-slot_of-ge23.false,
    )

pub returns : goal.returns
returns c =
    let was = c.loop-passed.invariant in
    let found = sym c.element_at.ensures ∙ c.in_ok-e.was in
    let within = found_within _ _ _ found in
    met {next = c.in_ok-e.e.end} was.0 (omega (arith, within)) (omega (arith, within)) was.1
    (strange-met _ _ _ found c.any_extension-own.ensures c.in-Some-own.is c.slot_of.ensures
    c.if-slot_of-ge23.true)
