-- The search stands at the column that comes next in the row of outside, and no place from there on is reached.
use Prim.Native.Nat.{ℕ, ◌+◌, ◌<◌}
use mathlib.Core.Path.{◌≡◌, refl, ◌∙◌}
use mathlib.Core.Bool.{Bool, true, false}
use mathlib.Core.List.{List}
use mathlib.Core.Logic.{inr}
use native.Mathlib.Omega.{arith}
use borrow.Author.Tests.{eq-eqb, ne_eqb}
use lib.ListN.{get_or, set}
use lib.Seq.{get_or-set_other}
use Rattle.graph.specs.Chains.{graph_by}
use Rattle.graph.specs.Search.{followed, distance_of}
use Rattle.graph.proofs.Steps.{opens}
use Rattle.graph.proofs.Walks.{distance-outside}
use Rattle.search.proofs.Turns.{none_found, passed, taken, room-left}
use Rattle.search.proofs.anchors.Invariants.{Turn}
use Rattle.search.proofs.anchors.Goals as goal
use Rattle.search.proofs.anchors.Goals.{then-roles-v-eq1, else-roles-v-eq1}

-- any steps, for facts that hold whatever they are
none : ℕ → ℕ → Bool
none u v = false

module _ {places : ℕ} {roles queue parent distance : List ℕ} {end v : ℕ} (t : Turn places roles queue parent distance end v) (h : v < places) where
  -- outside leads to anchors alone
  opening : (step : ℕ → ℕ → Bool) → get_or roles v 0 ≡ 1 → followed places (graph_by places roles step) places v ≡ true
  opening step e = opens places (graph_by places roles step) (eq-eqb (get_or roles v 0) 1 e)

  shut : (step : ℕ → ℕ → Bool) → (get_or roles v 0 ≡ 1 → ⊥) → followed places (graph_by places roles step) places v ≡ false
  unfolding followed
  shut step d = rw (eq-eqb places places refl) (ne_eqb (get_or roles v 0) 1 d)

  first : 1 ≡ distance_of places distance places + 1
  first = rw (distance-outside places distance places refl)

  no-anchor : (get_or roles v 0 ≡ 1 → ⊥) → Turn places roles queue parent distance end (v + 1)
  no-anchor d =
      record {
        small = t.small;
        stands = λ step. passed t.small (t.stands step) (t.stands step).root refl h (inr (shut step d));
        fresh = λ w k l. t.fresh w (omega arith) l;
      }

  module _ (e : get_or roles v 0 ≡ 1) where
    an-anchor : Turn places roles (set queue (end + 1) v) (set parent v places) (set distance v 1) (end + 1) (v + 1)
    an-anchor =
        record {
          small = t.small;
          stands = λ step.
              taken t.small (t.stands step) (t.stands step).root refl h first (t.fresh v (omega arith) h) (opening step e);
          fresh = λ w k l. get_or-set_other parent v w places 0 (λ z. omega arith) ∙ t.fresh w (omega arith) l;
        }

    room : end + 1 < 97
    room = room-left t.small (t.stands none) (t.stands none).root refl h first (t.fresh v (omega arith) h) (opening none e)

pub loop-v-init : goal.loop-v-init
loop-v-init c =
    let p = c.requires in
    record { small = p.places_bound; stands = p.by_index; fresh = λ w k l. none_found (p.by_index none) w l }

pub bounds-roles-v : goal.bounds-roles-v
bounds-roles-v c = omega (arith, c.loop-v.invariant.small, c.loop-v-test.true)

pub overflow_cast-parent : goal.overflow_cast-parent
overflow_cast-parent c = omega (arith, c.loop-v.invariant.small)

pub bounds-parent-v : goal.bounds-parent-v
bounds-parent-v c = omega (arith, c.loop-v.invariant.small, c.loop-v-test.true)

pub bounds-distance-v : goal.bounds-distance-v
bounds-distance-v c = omega (arith, c.loop-v.invariant.small, c.loop-v-test.true)

pub overflow_add-end : goal.overflow_add-end
overflow_add-end c = omega (arith, room c.loop-v.invariant c.loop-v-test.true c.if-roles-v-eq1.true)

pub overflow_cast-queue : goal.overflow_cast-queue
overflow_cast-queue c = omega (arith, c.loop-v.invariant.small, c.loop-v-test.true)

pub bounds-queue-end : goal.bounds-queue-end
bounds-queue-end c = room c.loop-v.invariant c.loop-v-test.true c.if-roles-v-eq1.true

pub loop-v-preserved : goal.loop-v-preserved
loop-v-preserved c =
    elim c.if-roles-v-eq1.branch [
      | then-roles-v-eq1 w ↦
          rw (w.queue-is, w.parent-is, w.distance-is, w.end-is) (an-anchor c.loop-v.invariant c.loop-v-test.true w.if-roles-v-eq1.true)
      | else-roles-v-eq1 w ↦
          rw (w.queue-is, w.parent-is, w.distance-is, w.end-is) (no-anchor c.loop-v.invariant c.loop-v-test.true w.if-roles-v-eq1.false)
    ]

pub returns : goal.returns
returns c =
    let l = c.loop-v in
    let e : l.v ≡ c.args.places = omega (arith, l.auto.v-end, c.loop-v-test.false) in
    λ step. rw e at (l.invariant.stands step)
