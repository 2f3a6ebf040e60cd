-- The slots from `left` on hold what stands on the path behind the place that is reached, and as many are left as that place has
-- on its own path, at first the distance of the target.
use Prim.Native.Nat.{◌<◌, ◌≤◌}
use mathlib.Core.Path.{refl}
use native.Mathlib.Omega.{arith}
use Rattle.search.proofs.Traces.{fill_start, fill-room, fill_more, fill_end}
use Rattle.search.proofs.path_places.Goals as goal
use Rattle.search.proofs.path_places.Goals.{In-loop-place}

fits : (c : In-loop-place) → (0 < c.loop-place.left) × (c.loop-place.left ≤ 96) × (c.loop-place.place < 96)
fits c =
    let p = c.requires in
    let s = p.paths in
    let f = fill-room s p.target_lt_places p.reached c.loop-place-test.true (c.loop-place.invariant s) in
    (f.0, f.1, omega (arith, p.places_bound, f.2))

pub bounds-distance-target : goal.bounds-distance-target
bounds-distance-target c = omega (arith, c.requires.places_bound, c.requires.target_lt_places)

pub loop-place-init : goal.loop-place-init
loop-place-init c = λ s. let p = c.requires in fill_start s p.target_lt_places p.reached refl

pub overflow_sub-left : goal.overflow_sub-left
overflow_sub-left c = omega (arith, (fits (goal.at.overflow_sub-left c).In-loop-place).0)

pub overflow_cast-slots : goal.overflow_cast-slots
overflow_cast-slots c = omega (arith, (fits (goal.at.overflow_cast-slots c).In-loop-place).2)

pub bounds-slots-left : goal.bounds-slots-left
bounds-slots-left c = omega (arith, (fits (goal.at.bounds-slots-left c).In-loop-place).0, (fits (goal.at.bounds-slots-left c).In-loop-place).1)

pub bounds-parent-place : goal.bounds-parent-place
bounds-parent-place c = (fits (goal.at.bounds-parent-place c).In-loop-place).2

pub loop-place-smaller : goal.loop-place-smaller
loop-place-smaller c = omega (arith, (fits (goal.at.loop-place-smaller c).In-loop-place).0)

pub loop-place-preserved : goal.loop-place-preserved
loop-place-preserved c = λ s. fill_more s c.loop-place-test.true (c.loop-place.invariant s)

pub returns : goal.returns
returns c = λ s. fill_end s c.loop-place-test.false (c.loop-place.invariant s)
