-- So many places of the path to the target are read off, and the next one is the first that the ways lead on to.
use Prim.Native.Nat.{ℕ, ◌+◌, ◌-◌, ◌<◌, ◌≤◌}
use mathlib.Core.Path.{◌≡◌}
use mathlib.Core.List.{List, ◌++◌}
use native.Mathlib.Omega.{arith}
use borrow.Author.Tests.{eq-eqb}
use lib.ListN.{length, get_or, set, replicate}
use Rattle.graph.specs.Chains.{graph_of}
use Rattle.graph.specs.Search.{followed, Searched}
use Rattle.graph.specs.Rounds.{Next}
use Rattle.graph.proofs.Cases.{clash}
use Rattle.graph.proofs.ReadingOff.{forward-begin, forward-last, forward-ahead, forward-inside, forward-more, forward-end}
use Rattle.graph.proofs.Steps.{from-signer}
use Rattle.graph.proofs.rounds.read_off.Invariants.{Turn}
use Rattle.graph.proofs.rounds.read_off.Goals as goal

module _ {places : ℕ} {roles steps ways : List ℕ} {target : ℕ} {distance slots : List ℕ} {place far : ℕ} (t : Turn places roles steps ways target distance slots place far) where
  short : get_or distance target 0 ≤ 96
  short = t.table.short target t.there t.marked

  -- all places are read off
  ended :
      far ≡ get_or distance target 0 → (s : Searched places (followed places (graph_of places roles steps)) distance)
      → slots ≡ s.path target ++ replicate (96 - length (s.path target)) 255
  ended e s =
      forward-end t.small t.table t.ways-are t.there t.marked (rw e at t.stands) s

  module _ (h : far < get_or distance target 0) where
    -- a signer leads nowhere
    leads : place < places → get_or roles place 0 ≡ 3 → ⊥
    leads l e =
        let a = forward-ahead t.small t.table t.ways-are t.there t.marked t.stands h in
        clash a.good (from-signer places (graph_of places roles steps) a.next l (eq-eqb _ _ e))

    module _ {v : ℕ} (x : Next places (followed places (graph_of places roles steps)) ways place (far + 1) v) where
      below : v < places
      below = forward-inside t.small t.table t.ways-are t.there t.marked t.stands h x

      one-more : Turn places roles steps ways target distance (set slots far v) v (far + 1)
      one-more =
          record {
            small = t.small;
            there = t.there;
            marked = t.marked;
            table = t.table;
            ways-are = t.ways-are;
            stands = forward-more t.small t.table t.ways-are t.there t.marked t.stands h x;
          }

pub loop-far-init : goal.loop-far-init
loop-far-init c =
    let p = c.requires in
    record {
      small = p.places_bound.0;
      there = p.places_bound.1;
      marked = p.places_bound.2;
      table = p.round_table;
      ways-are = p.back;
      stands = forward-begin _ _ _;
    }

pub bounds-distance-target : goal.bounds-distance-target
bounds-distance-target c = let p = c.requires.places_bound in omega arith

pub overflow_add-far : goal.overflow_add-far
overflow_add-far c = omega (arith, c.loop-far-test.true, short c.loop-far.invariant)

pub next-place-requires : goal.next-place-requires
next-place-requires c =
    let t = c.loop-far.invariant in
    record { places_bound = (t.small, forward-last t.stands); fact = leads t c.loop-far-test.true }

pub overflow_cast-slots : goal.overflow_cast-slots
overflow_cast-slots c =
    let t = c.loop-far.invariant in
    omega (arith, t.small, below t c.loop-far-test.true c.next-place.ensures)

pub bounds-slots-far : goal.bounds-slots-far
bounds-slots-far c = omega (arith, c.loop-far-test.true, short c.loop-far.invariant)

pub loop-far-preserved : goal.loop-far-preserved
loop-far-preserved c =
    one-more c.loop-far.invariant c.loop-far-test.true c.next-place.ensures

pub returns : goal.returns
returns c = λ s. ended c.loop-far.invariant (omega (arith, c.loop-far.auto.far-end, c.loop-far-test.false)) s
