-- The sum so far and that of the lengths left come to the sum of all; 96 lengths below 2 to the power of 32 do not wrap.
use mathlib.Core.Path.{ap}
use native.Mathlib.Omega.{arith}
use lib.ListN.{drop_of_length-le}
use Rattle.writer.specs.Writing.{sum_all}
use Rattle.writer.proofs.Columns.{sum-next}
use Rattle.writer.proofs.sum_all.Goals as goal

pub overflow_add-sum : goal.overflow_add-sum
overflow_add-sum c = omega (arith, c.type_inv.lengths c.loop-size.size-index)

pub loop-size-preserved : goal.loop-size-preserved
loop-size-preserved c =
    let i = c.loop-size.size-index in
    let next = sum-next c.args.lengths.now i c.loop-size-test.true in
    (omega (arith, c.type_inv.lengths i), omega (arith, next))

pub returns : goal.returns
unfolding sum_all
returns c =
    let none = drop_of_length-le c.args.lengths.now c.loop-size-test.false in
    omega (arith, ap sum_all none)
