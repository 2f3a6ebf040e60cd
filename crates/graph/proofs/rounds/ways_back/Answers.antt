-- The ways are whole down to the distance that was done last, the first time to that of the target.
use Prim.Native.Nat.{◌+◌, ◌-◌}
use mathlib.Core.Path.{◌≡◌, refl}
use native.Mathlib.Omega.{arith}
use Rattle.graph.proofs.WaysBack.{back-begin, back-nearer}
use Rattle.graph.proofs.rounds.ways_back.Goals as goal

pub bounds-distance-target : goal.bounds-distance-target
bounds-distance-target c = let p = c.requires in omega (arith, p.places_bound.0, p.places_bound.1)

pub bounds-ways-target : goal.bounds-ways-target
bounds-ways-target c = let p = c.requires in omega (arith, p.places_bound.0, p.places_bound.1)

pub loop-far-init : goal.loop-far-init
loop-far-init c =
    let p = c.requires in
    let b = p.places_bound in
    let r = p.round_table in (
      b.0,
      r.short _ b.1 b.2,
      omega (arith, (r.from _ b.1 b.2).one),
      back-begin _ _ _ b.0 b.1 _ _ refl b.2,
    )

pub one_back-ways-requires : goal.one_back-ways-requires
one_back-ways-requires c =
    let l = c.loop-far in
    let i = l.invariant in
    let e : l.far - 1 + 1 ≡ l.far = omega (arith, c.loop-far-test.true) in
    record { places_bound = (i.0, i.1); back = back-nearer i.0 e i.3 }

pub loop-far-preserved : goal.loop-far-preserved
loop-far-preserved c = let i = c.loop-far.invariant in (i.0, i.1, omega (arith, c.loop-far-test.true), c.one_back-ways.ensures)

pub returns : goal.returns
returns c =
    let l = c.loop-far in
    let e : l.far ≡ 1 = omega (arith, l.invariant.2, c.loop-far-test.false) in
    rw e at l.invariant.3
