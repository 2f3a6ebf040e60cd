-- The steps so far are good ones, and the first that is none refuses.
use Prim.Native.Nat.{◌+◌}
use mathlib.Core.Path.{sym, ◌∙◌}
use native.Mathlib.Omega.{arith}
use borrow.Author.Count.{below_more}
use Rattle.usable.proofs.Booleans.{false-true}
use Rattle.chain.specs.Given.{yes, no}
use Rattle.chain.proofs.given.steps_fit.Goals as goal

pub overflow_sub-last : goal.overflow_sub-last
overflow_sub-last c = omega (arith, c.requires.1.two)

pub loop-i-init : goal.loop-i-init
loop-i-init c =
    let p = c.requires in
    record { small = p.0; range = p.1; ends = omega (arith, p.1.two); good = λ k h. absurd (omega arith) }

pub bounds-places-i : goal.bounds-places-i
bounds-places-i c = omega (arith, c.loop-i.invariant.ends, c.loop-i-test.true)

pub overflow_cast-u : goal.overflow_cast-u
overflow_cast-u c = omega (arith, c.type_inv.places c.loop-i.i)

pub overflow_add-v : goal.overflow_add-v
overflow_add-v c = let i = c.loop-i.invariant in omega (arith, i.range.most, i.ends, c.loop-i-test.true)

pub bounds-places-i-in-loop-i : goal.bounds-places-i-in-loop-i
bounds-places-i-in-loop-i c = omega (arith, c.loop-i.invariant.ends, c.loop-i-test.true)

pub overflow_cast-v : goal.overflow_cast-v
overflow_cast-v c = omega (arith, c.type_inv.places (c.loop-i.i + 1))

pub step_fits-requires : goal.step_fits-requires
step_fits-requires c =
    let i = c.loop-i.invariant in
    let here = c.loop-i-test.true in
    (i.small, i.range.inside c.loop-i.i (omega (arith, i.ends, here)), i.range.inside (c.loop-i.i + 1) (omega (arith, i.ends, here)))

pub returns-then-not-step_fits : goal.returns-then-not-step_fits
returns-then-not-step_fits c =
    no
    (λ fit.
    false-true
    (sym c.if-not-step_fits.true ∙ c.step_fits.ensures
    ∙ fit c.loop-i.i (omega (arith, c.loop-i.invariant.ends, c.loop-i-test.true))))

pub loop-i-preserved : goal.loop-i-preserved
loop-i-preserved c =
    let i = c.loop-i.invariant in
    record {
      small = i.small;
      range = i.range;
      ends = i.ends;
      good = below_more _ c.loop-i.i i.good (sym c.step_fits.ensures ∙ c.if-not-step_fits.false);
    }

pub returns : goal.returns
returns c = let i = c.loop-i.invariant in yes (λ k h. i.good k (omega (arith, i.ends, c.loop-i-test.false)))
