-- The OIDs from `at` on are left; of the rows, those from `i` on are to be compared with this OID.
use mathlib.Core.Path.{◌≡◌, refl, sym, ◌∙◌}
use mathlib.Core.Bool.{false}
use Rattle.octets.specs.Alike.{alike}
use native.Mathlib.Numerals.{add-one}
use native.Mathlib.Omega.{arith}
use lib.ListN.{get_or}
use Rattle.extensions.specs.Strange.{row_oid, Numbered}
use Rattle.extensions.proofs.Tables.{vacant, seen_in, seen_none, seen_other, seen_here, ahead_none, ahead-row, Onward, unequal-last, listed_start, listed-end, listed-twice, listed-full, listed-past, listed-new}
use Rattle.extensions.proofs.twice.compared.Goals as goal
use Rattle.extensions.proofs.twice.compared.Goals.{After-loop-i, After-row_of-own, In-loop-i, then-other-own+else-equal_rows, else-other-own}

-- the OID at hand is the first that is left
onward : (c : After-row_of-own) →
    let a = c.args in
    Onward a.item.now c.each.at a.end c.in-Some.field-0.place c.in-Some.field-0.next (row_oid a.item.now c.row_of-own.result)
onward c =
    ahead-row _ _ _ c.stranger_from.ensures c.in-Some.is c.row_of-own.result c.row_of-own.ensures.is

-- the row that it is compared with is one of the table
other-numbered : (c : In-loop-i) →
    Numbered c.args.item.now (get_or c.each.table c.loop-i.i vacant)
other-numbered c = c.each.invariant.1.numbered _ c.loop-i-test.true

-- it is none of the table's
new : (c : After-loop-i) →
    let item = c.args.item.now in
    seen_in item c.each.table c.each.count (row_oid item c.row_of-own.result) ≡ false
new c =
    let was = c.loop-i in
    let all : was.i ≡ c.each.count = omega (arith, c.loop-i-test.false, was.auto.i-end) in
    rw all at was.invariant.2

pub each-init : goal.each-init
each-init c = (refl, listed_start _ _ _)

pub loop-i-init : goal.loop-i-init
loop-i-init c = (refl, refl, seen_none _ _ _)

pub offset_bounds-table-i : goal.offset_bounds-table-i
offset_bounds-table-i c = omega (arith, c.each.invariant.1.room, c.loop-i-test.true)

pub bounds-table-i : goal.bounds-table-i
bounds-table-i c = let known = c.each.invariant.1 in omega (arith, known.room, known.long, c.loop-i-test.true)

pub equal_rows-requires : goal.equal_rows-requires
equal_rows-requires c = (c.row_of-own.ensures.numbers, other-numbered (goal.at.equal_rows-requires c).In-loop-i)

pub loop-i-preserved : goal.loop-i-preserved
loop-i-preserved c =
    let known = c.loop-i.invariant in
    let own = c.row_of-own.ensures.numbers in
    let unlike : alike (row_oid c.args.item.now c.row_of-own.result) (row_oid c.args.item.now (get_or c.each.table c.loop-i.i vacant)) ≡ false =
    elim c.if-other-own.branch [
      | then-other-own+else-equal_rows w ↦ sym w.equal_rows.ensures ∙ w.if-equal_rows.false
      | else-other-own w ↦
          unequal-last _ _ _ own (other-numbered (goal.at.loop-i-preserved c).In-loop-i) w.if-other-own.false
    ] in
    (known.0, known.1, rw (add-one _) (seen_other _ _ _ _ known.2 unlike))

pub offset_bounds-table-count : goal.offset_bounds-table-count
offset_bounds-table-count c = omega (arith, c.if-count-lt64.true)

pub bounds-table-count : goal.bounds-table-count
bounds-table-count c = omega (arith, c.each.invariant.1.long, c.if-count-lt64.true)

pub overflow_add-count : goal.overflow_add-count
overflow_add-count c = omega (arith, c.if-count-lt64.true)

pub each-smaller-then-count-lt64 : goal.each-smaller-then-count-lt64
each-smaller-then-count-lt64 c = omega (arith, (onward (goal.at.each-smaller-then-count-lt64 c).After-row_of-own).onward)

pub each-preserved-then-count-lt64 : goal.each-preserved-then-count-lt64
each-preserved-then-count-lt64 c =
    let now = c.each in
    let was = c.loop-i.invariant in
    (was.1 ∙ now.invariant.0, rw was.0 (listed-new _ _ _ now.invariant.1 (onward (goal.at.each-preserved-then-count-lt64 c).After-row_of-own) (new (goal.at.each-preserved-then-count-lt64 c).After-loop-i) c.if-count-lt64.true refl c.row_of-own.ensures.numbers))

pub each-smaller-then-rest-end : goal.each-smaller-then-rest-end
each-smaller-then-rest-end c = omega (arith, (onward (goal.at.each-smaller-then-rest-end c).After-row_of-own).onward)

pub each-preserved-then-rest-end : goal.each-preserved-then-rest-end
each-preserved-then-rest-end c =
    let now = c.each in
    let was = c.loop-i.invariant in (
      was.1 ∙ now.invariant.0,
      listed-full _ _ _ now.invariant.1 (onward (goal.at.each-preserved-then-rest-end c).After-row_of-own) (new (goal.at.each-preserved-then-rest-end c).After-loop-i) c.if-count-lt64.false
          (sym was.0 ∙ c.if-rest-end.true),
    )

pub each-smaller : goal.each-smaller
each-smaller c = omega (arith, (onward (goal.at.each-smaller c).After-row_of-own).onward)

pub each-preserved : goal.each-preserved
each-preserved c =
    let now = c.each in
    let was = c.loop-i.invariant in (
      was.1 ∙ now.invariant.0,
      rw was.0 (listed-past _ _ _ now.invariant.1 (onward (goal.at.each-preserved c).After-row_of-own) (new (goal.at.each-preserved c).After-loop-i) c.if-count-lt64.false
          (λ q. c.if-rest-end.false (was.0 ∙ q))),
    )

pub returns-in_default : goal.returns-in_default
returns-in_default c = rw c.each.invariant.0 (listed-end _ _ _ c.each.invariant.1 (ahead_none _ _ _ c.stranger_from.ensures c.in_default.is))

pub returns-then-equal_rows : goal.returns-then-equal_rows
returns-then-equal_rows c =
    let now = c.each in
    listed-twice _ _ _ now.invariant.1 (onward (goal.at.returns-then-equal_rows c).After-row_of-own)
    (seen_here _ _ _ _ _ c.loop-i-test.true (sym c.equal_rows.ensures ∙ c.if-equal_rows.true))
