-- Whether all rows are good is whether those left are, as long as each so far is.
use mathlib.Core.Path.{refl, sym, ◌∙◌}
use native.Mathlib.Omega.{arith}
use lib.ListN.{drop_of_length-le}
use Rattle.writer.specs.Writing.{rows_good}
use Rattle.writer.proofs.Columns.{good-next}
use Rattle.writer.proofs.rows_good.Goals as goal

pub loop-i-init : goal.loop-i-init
loop-i-init c = (omega arith, refl)

pub bounds-kinds-i : goal.bounds-kinds-i
bounds-kinds-i c =
    omega (arith, c.requires)

pub overflow_cast-kinds : goal.overflow_cast-kinds
overflow_cast-kinds c = omega (arith, c.type_inv.kinds c.loop-i.i)

pub bounds-flags-i : goal.bounds-flags-i
bounds-flags-i c =
    omega (arith, c.requires)

pub overflow_cast-flags : goal.overflow_cast-flags
overflow_cast-flags c = omega (arith, c.type_inv.flags c.loop-i.i)

pub offset_bounds-lengths-i : goal.offset_bounds-lengths-i
offset_bounds-lengths-i c =
    omega (arith, c.requires)

pub bounds-lengths-i : goal.bounds-lengths-i
bounds-lengths-i c =
    omega (arith, c.requires)

pub overflow_cast-lengths : goal.overflow_cast-lengths
overflow_cast-lengths c = omega (arith, c.type_inv.lengths c.loop-i.i)

pub fields_good-requires : goal.fields_good-requires
fields_good-requires c = tt

pub returns-then-not-fields_good : goal.returns-then-not-fields_good
returns-then-not-fields_good c =
    let a = c.args in
    let next = good-next a.kinds.now a.flags.now a.lengths.now c.loop-i.i c.loop-i-test.true in
    sym (c.loop-i.invariant.1 ∙ (next ∙ simp (sym c.fields_good.ensures ∙ c.if-not-fields_good.true)))

pub overflow_add-i : goal.overflow_add-i
overflow_add-i c =
    omega (arith, c.requires)

pub loop-i-smaller : goal.loop-i-smaller
loop-i-smaller c =
    omega (arith, c.requires)

pub loop-i-preserved : goal.loop-i-preserved
loop-i-preserved c =
    let a = c.args in
    let next = good-next a.kinds.now a.flags.now a.lengths.now c.loop-i.i c.loop-i-test.true in
    (omega arith, c.loop-i.invariant.1 ∙ (next ∙ simp (sym c.fields_good.ensures ∙ c.if-not-fields_good.false)))

pub returns : goal.returns
unfolding rows_good
returns c =
    sym (c.loop-i.invariant.1 ∙ rw (drop_of_length-le c.args.kinds.now c.loop-i-test.false))
