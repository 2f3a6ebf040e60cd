-- The slots of the places so far are told.
use Prim.Native.Nat.{◌<◌}
use mathlib.Core.Path.{refl}
use native.Mathlib.Omega.{arith}
use lib.ListN.{length, length-set}
use Rattle.usable.proofs.Slots.{empty-slots, slot-set, slot-left}
use Rattle.usable.proofs.RowLaws.{counted-all, counted-unvouched, counted-other}
use Rattle.usable.proofs.counting.counting_lists.Goals as goal
use Rattle.usable.proofs.counting.counting_lists.Goals.{
  then-standing_at-eq4+then-vouched,
  else-standing_at-eq4,
  else-standing_at-eq4-via-then-standing_at-eq4+else-vouched,
  else-standing_at-eq4-via-else-standing_at-eq4,
}

pub returns-then-places-gt96 : goal.returns-then-places-gt96
returns-then-places-gt96 c = ((λ h. absurd (omega (arith, c.if-places-gt96.true))), (λ h. refl))

pub loop-list-init : goal.loop-list-init
loop-list-init c = (
  omega (arith, c.if-places-gt96.false),
  refl,
  record { before = λ c h. absurd (omega arith); behind = λ c h. empty-slots 96 c },
)

pub standing_at-requires : goal.standing_at-requires
standing_at-requires c = omega (arith, c.loop-list.invariant.0, c.loop-list-test.true)

pub vouched-requires : goal.vouched-requires
vouched-requires c = (c.loop-list.invariant.0, c.loop-list-test.true)

pub bounds-counting-list : goal.bounds-counting-list
bounds-counting-list c = omega (arith, c.loop-list.invariant.0, c.loop-list-test.true)

pub loop-list-preserved : goal.loop-list-preserved
loop-list-preserved c =
    let known = c.loop-list.invariant in
    let room : c.loop-list.list < length c.loop-list.counting = omega (arith, known.0, known.1, c.loop-list-test.true) in
    let standing = c.standing_at.ensures in (
      known.0,
      elim c.if-standing_at-eq4.branch [
        | then-standing_at-eq4+then-vouched w ↦ rw (w.counting-is, length-set) known.1
        | else-standing_at-eq4 w ↦ rw w.counting-is known.1
      ],
      elim c.if-standing_at-eq4.branch [
        | then-standing_at-eq4+then-vouched w ↦
            rw w.counting-is
            (slot-set known.2 room (counted-all _ _ _ _ standing w.if-standing_at-eq4.true w.vouched.ensures w.if-vouched.true))
        | else-standing_at-eq4 w ↦
            rw w.counting-is
            (slot-left known.2
            (elim w.else-standing_at-eq4.branch [
              | else-standing_at-eq4-via-then-standing_at-eq4+else-vouched v ↦
                  counted-unvouched _ _ _ _ standing v.if-standing_at-eq4.true v.vouched.ensures v.if-vouched.false
              | else-standing_at-eq4-via-else-standing_at-eq4 v ↦ counted-other _ _ _ _ standing v.if-standing_at-eq4.false
            ]))
      ],
    )

pub returns : goal.returns
returns c = (
  (λ few. λ k h. c.loop-list.invariant.2.before k (omega (arith, c.loop-list-test.false))),
  (λ many. absurd (omega (arith, c.loop-list.invariant.0))),
)
