-- The ways stand before the row of the place that comes next; a place that is not so far, or a signer, leads to none of them.
use Prim.Native.Nat.{ℕ, ◌+◌, ◌<◌, ◌≤◌}
use mathlib.Core.Bool.{true}
use mathlib.Core.Path.{◌≡◌}
use mathlib.Core.List.{List}
use native.Mathlib.Omega.{arith}
use borrow.Author.Tests.{eq-eqb}
use lib.ListN.{get_or, set}
use Rattle.graph.specs.Chains.{graph_of}
use Rattle.graph.specs.Search.{followed}
use Rattle.graph.specs.Rounds.{Next}
use Rattle.graph.proofs.Cases.{clash}
use Rattle.graph.proofs.Steps.{from-signer}
use Rattle.graph.proofs.WaysBack.{back-passed, back-marked}
use Rattle.graph.proofs.rounds.one_back.Invariants.{Turn}
use Rattle.graph.proofs.rounds.one_back.Goals as goal
use Rattle.graph.proofs.rounds.one_back.Goals.{
  then-onward+then-next-places,
  else-onward,
  else-onward-via-then-onward+else-next-places,
  else-onward-via-else-onward,
}

module _ {places : ℕ} {roles steps : List ℕ} {target far : ℕ} {distance more : List ℕ} {u : ℕ} (t : Turn places roles steps target far distance more u) (h : u < places) where
  passed :
      (get_or distance u 0 ≡ far → (v : ℕ) → v < places → get_or more v 0 ≡ far + 1 → followed places (graph_of places roles steps) u v ≡ true → ⊥)
      → Turn places roles steps target far distance more (u + 1)
  passed none = record { small = t.small; short = t.short; stands = back-passed t.small h t.stands none }

  -- a place that is not so far or a signer, and one that leads to none of the ways
  passed-row : (get_or distance u 0 ≡ far → get_or roles u 0 ≡ 3) → Turn places roles steps target far distance more (u + 1)
  passed-row signer = passed (λ is v l on f. clash f (from-signer places (graph_of places roles steps) v h (eq-eqb _ _ (signer is))))

  module _ {w : ℕ} (x : Next places (followed places (graph_of places roles steps)) more u (far + 1) w) where
    lost-row : places ≤ w → Turn places roles steps target far distance more (u + 1)
    lost-row k = passed (λ is v l on f. x.first v (omega arith) on f)

    -- one that leads to one of them
    way-row : get_or distance u 0 ≡ far → w < places → Turn places roles steps target far distance (set more u far) (u + 1)
    way-row is k =
        let y = x.is k in
        record {
          small = t.small;
          short = t.short;
          stands = back-marked t.small h t.stands t.short is w k y.0 y.1;
        }

pub loop-u-init : goal.loop-u-init
loop-u-init c = let p = c.requires in record { small = p.places_bound.0; short = p.places_bound.1; stands = p.back }

pub bounds-distance-u : goal.bounds-distance-u
bounds-distance-u c = omega (arith, c.loop-u.invariant.small, c.loop-u-test.true)

pub overflow_add-far : goal.overflow_add-far
overflow_add-far c = let t = c.loop-u.invariant in omega (arith, t.short, t.stands.most)

pub next-requires : goal.next-requires
next-requires c =
    let t = c.loop-u.invariant in
    record { places_bound = (t.small, omega (arith, c.loop-u-test.true)); fact = λ l. (c.onward.ensures.0 c.if-onward.true).1 }

pub bounds-more-u : goal.bounds-more-u
bounds-more-u c = omega (arith, c.loop-u.invariant.small, c.loop-u-test.true)

pub loop-u-preserved : goal.loop-u-preserved
loop-u-preserved c =
    let t = c.loop-u.invariant in
    let h = c.loop-u-test.true in
    let onward = c.onward.ensures in
    elim c.if-onward.branch [
      | then-onward+then-next-places w ↦
          rw w.more-is (way-row t h w.next.ensures (onward.0 w.if-onward.true).0 w.if-next-places.true)
      | else-onward w ↦
          rw w.more-is
          (elim w.else-onward.branch [
            | else-onward-via-then-onward+else-next-places x ↦ lost-row t h x.next.ensures x.if-next-places.false
            | else-onward-via-else-onward x ↦ passed-row t h (onward.1 x.if-onward.false)
          ])
    ]

pub returns : goal.returns
returns c =
    let l = c.loop-u in
    let e : l.u ≡ c.args.places = omega (arith, l.auto.u-end, c.loop-u-test.false) in
    rw e at l.invariant.stands
