-- One slot more is filled, with the role that was known or the one that the CRLs leave.
use Prim.Native.Nat.{◌<◌}
use mathlib.Core.Path.{refl, ◌∙◌}
use native.Mathlib.Omega.{arith}
use lib.ListN.{length, length-set}
use Rattle.usable.proofs.Slots.{empty-slots, slot-set}
use Rattle.usable.proofs.RowLaws.{role_kept, role-fresh}
use Rattle.usable.proofs.roles.roles_of.Goals as goal
use Rattle.usable.proofs.roles.roles_of.Goals.{then-before-place-eq1, else-before-place-eq1}

pub returns-then-places-gt96 : goal.returns-then-places-gt96
returns-then-places-gt96 c = ((λ h. absurd (omega (arith, c.if-places-gt96.true))), (λ h. refl))

pub first_list-first-requires : goal.first_list-first-requires
first_list-first-requires c = omega (arith, c.if-places-gt96.false)

pub loop-place-init : goal.loop-place-init
loop-place-init c = (
  omega (arith, c.if-places-gt96.false),
  refl,
  c.first_list-first.ensures.0,
  c.first_list-first.ensures.1,
  record { before = λ c h. absurd (omega arith); behind = λ c h. empty-slots 96 c },
)

pub bounds-before-place : goal.bounds-before-place
bounds-before-place c = omega (arith, c.loop-place.invariant.0, c.loop-place-test.true)

pub bounds-roles-place : goal.bounds-roles-place
bounds-roles-place c = omega (arith, c.loop-place.invariant.0, c.loop-place-test.true)

pub bounds-more-place : goal.bounds-more-place
bounds-more-place c = omega (arith, c.loop-place.invariant.0, c.loop-place-test.true)

pub role_at-requires : goal.role_at-requires
role_at-requires c =
    (c.loop-place.invariant.0, omega (arith, c.loop-place.invariant.0, c.loop-place-test.true), c.loop-place.invariant.2, c.loop-place.invariant.3)

pub loop-place-preserved : goal.loop-place-preserved
loop-place-preserved c =
    let known = c.loop-place.invariant in
    let inside = c.loop-place-test.true in
    let room : c.loop-place.place < length c.loop-place.more = omega (arith, known.0, known.1, inside) in (
      known.0,
      rw length-set known.1,
      known.2,
      known.3,
      slot-set known.4 room
          (elim c.if-before-place-eq1.branch [
            | then-before-place-eq1 w ↦ w.more-is ∙ role_kept _ _ _ _ _ _ _ refl w.if-before-place-eq1.true
            | else-before-place-eq1 w ↦ w.more-is ∙ role-fresh _ _ _ _ _ _ _ w.role_at.ensures w.if-before-place-eq1.false
          ]),
    )

pub returns : goal.returns
returns c = (
  (λ few. λ k h. c.loop-place.invariant.4.before k (omega (arith, c.loop-place-test.false))),
  (λ many. absurd (omega (arith, c.loop-place.invariant.0))),
)
