-- The search stands at the end of the row of the head, and with no row left its tables are those of the paths.
use native.Mathlib.Omega.{arith}
use Rattle.search.proofs.Turns.{begin, next, finish, row_room}
use Rattle.search.proofs.search.Goals as goal

pub overflow_cast-queue : goal.overflow_cast-queue
overflow_cast-queue c = omega (arith, c.requires)

pub anchors-last-requires : goal.anchors-last-requires
anchors-last-requires c = record { places_bound = c.requires; by_index = λ step. begin c.args.places _ c.requires }

pub loop-head-init : goal.loop-head-init
loop-head-init c = (c.requires, c.anchors-last.ensures _)

pub overflow_add-head : goal.overflow_add-head
overflow_add-head c = omega (arith, row_room c.loop-head.invariant.0 c.loop-head.invariant.1)

pub row-last-requires : goal.row-last-requires
row-last-requires c =
    let i = c.loop-head.invariant in
    record { places_bound = (i.0, omega arith); at = next i.0 i.1 (omega (arith, c.loop-head-test.true)) }

pub loop-head-smaller : goal.loop-head-smaller
loop-head-smaller c = let i = c.loop-head.invariant in omega (arith, row_room i.0 i.1)

pub loop-head-preserved : goal.loop-head-preserved
loop-head-preserved c = (c.loop-head.invariant.0, c.row-last.ensures)

pub returns : goal.returns
returns c =
    let i = c.loop-head.invariant in
    finish i.0 i.1 (omega (arith, i.1.within, c.loop-head-test.false))
