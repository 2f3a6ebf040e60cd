-- The round stands at the column that comes next, in the row of one place that is so far.
use Prim.Native.Nat.{ℕ, ◌+◌, ◌<◌}
use mathlib.Core.Bool.{true, false}
use mathlib.Core.Path.{◌≡◌, sym, ◌∙◌}
use mathlib.Core.List.{List}
use mathlib.Core.Logic.{◌⊎◌, inl, inr}
use native.Mathlib.Omega.{arith}
use lib.ListN.{get_or, set}
use Rattle.graph.specs.Chains.{graph_of}
use Rattle.graph.specs.Search.{followed, Reached}
use Rattle.graph.proofs.RoundTurns.{round_room, column-passed, column-marked, row_kept}
use Rattle.graph.proofs.rounds.reach.Invariants.{Turn}
use Rattle.graph.proofs.rounds.reach.Goals as goal
use Rattle.graph.proofs.rounds.reach.Goals.{
  then-distance-v+then-follows,
  else-distance-v,
  else-distance-v-via-then-distance-v+else-follows,
  else-distance-v-via-else-distance-v,
}

module _ {places : ℕ} {roles steps : List ℕ} {u far : ℕ} {distance : List ℕ} {count v : ℕ} (t : Turn places roles steps u far distance count v) (h : v < places) where
  -- a turn in which nothing is new, and one in which a place is
  nothing-new : Reached distance v ⊎ (followed places (graph_of places roles steps) u v ≡ false) → Turn places roles steps u far distance count (v + 1)
  nothing-new w =
      record {
        small = t.small;
        known = t.known;
        this = t.this;
        leads = t.leads;
        stands = column-passed t.small t.known h t.stands w;
      }

  one-new :
      get_or distance v 0 ≡ 255 → followed places (graph_of places roles steps) u v ≡ true
      → Turn places roles steps u far (set distance v (far + 1)) (count + 1) (v + 1)
  one-new new good =
      record {
        small = t.small;
        known = t.known;
        this = row_kept t.small t.stands h t.known t.this new good;
        leads = t.leads;
        stands = column-marked t.small t.stands h t.known t.this new good;
      }

pub loop-v-init : goal.loop-v-init
loop-v-init c =
    let p = c.requires in
    record {
      small = p.places_bound.0;
      known = p.places_bound.1;
      this = p.places_bound.2;
      leads = p.fact;
      stands = p.in_round;
    }

pub bounds-distance-v : goal.bounds-distance-v
bounds-distance-v c = omega (arith, c.loop-v.invariant.small, c.loop-v-test.true)

pub follows-requires : goal.follows-requires
follows-requires c =
    let t = c.loop-v.invariant in
    record { places_bound = (t.small, t.known, c.loop-v-test.true); fact = t.leads }

pub overflow_add-distance : goal.overflow_add-distance
overflow_add-distance c = let t = c.loop-v.invariant in omega (arith, round_room t.small t.stands)

pub bounds-distance-v-then-follows : goal.bounds-distance-v-then-follows
bounds-distance-v-then-follows c = let t = c.loop-v.invariant in omega (arith, t.small, c.loop-v-test.true)

pub overflow_add-count : goal.overflow_add-count
overflow_add-count c = let t = c.loop-v.invariant in omega (arith, round_room t.small t.stands)

pub loop-v-preserved : goal.loop-v-preserved
loop-v-preserved c =
    let t = c.loop-v.invariant in
    let h = c.loop-v-test.true in
    elim c.if-distance-v.branch [
      | then-distance-v+then-follows w ↦
          rw (w.distance-is, w.count-is) (one-new t h w.if-distance-v.true (sym w.follows.ensures ∙ w.if-follows.true))
      | else-distance-v w ↦
          rw (w.distance-is, w.count-is)
          (nothing-new t h
          (elim w.else-distance-v.branch [
            | else-distance-v-via-then-distance-v+else-follows x ↦ inr (sym x.follows.ensures ∙ x.if-follows.false)
            | else-distance-v-via-else-distance-v x ↦ inl x.if-distance-v.false
          ]))
    ]

pub returns : goal.returns
returns c =
    let l = c.loop-v in
    let e : l.v ≡ c.args.places = omega (arith, l.auto.v-end, c.loop-v-test.false) in
    rw e at l.invariant.stands
