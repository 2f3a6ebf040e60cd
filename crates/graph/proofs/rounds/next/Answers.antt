-- No place that was looked at is on the ways at that distance and reached by a good step.
use Prim.Native.Nat.{ℕ, ◌+◌, ◌<◌, ◌≤◌}
use mathlib.Core.Bool.{true}
use mathlib.Core.Path.{◌≡◌, sym, ◌∙◌}
use mathlib.Core.List.{List}
use mathlib.Core.Logic.{⊎_elim}
use native.Mathlib.Omega.{arith}
use lib.ListN.{get_or}
use Rattle.graph.specs.Chains.{graph_of}
use Rattle.graph.specs.Search.{followed}
use Rattle.graph.specs.Rounds.{Next}
use Rattle.graph.proofs.Cases.{less?, clash}
use Rattle.graph.proofs.rounds.next.Invariants.{Turn}
use Rattle.graph.proofs.rounds.next.Goals as goal
use Rattle.graph.proofs.rounds.next.Goals.{else-ways-place-via-then-ways-place+else-follows, else-ways-place-via-else-ways-place}

module _ {places : ℕ} {roles steps : List ℕ} {u far : ℕ} {ways : List ℕ} {place : ℕ} (t : Turn places roles steps u far ways place) (h : place < places) where
  -- one place more that is not meant
  passed :
      (get_or ways place 0 ≡ far → followed places (graph_of places roles steps) u place ≡ true → ⊥)
      → Turn places roles steps u far ways (place + 1)
  passed never =
      record {
        small = t.small;
        known = t.known;
        leads = t.leads;
        none = λ w l f g.
            ⊎_elim (λ (k : w < place). t.none w k f g)
            (λ (k : place ≤ w). let same : w ≡ place = omega arith in never (rw same at f) (rw same at g)) (less? w place);
      }

  -- the one that is meant
  meant :
      get_or ways place 0 ≡ far → followed places (graph_of places roles steps) u place ≡ true
      → Next places (followed places (graph_of places roles steps)) ways u far place
  meant on good = record { inside = omega arith; is = λ l. (on, good); first = t.none }

pub loop-place-init : goal.loop-place-init
loop-place-init c =
    let p = c.requires in
    record { small = p.places_bound.0; known = p.places_bound.1; leads = p.fact; none = λ w l. absurd (omega arith) }

pub bounds-ways-place : goal.bounds-ways-place
bounds-ways-place c = omega (arith, c.loop-place.invariant.small, c.loop-place-test.true)

pub follows-requires : goal.follows-requires
follows-requires c =
    let t = c.loop-place.invariant in
    record { places_bound = (t.small, t.known, c.loop-place-test.true); fact = t.leads }

pub returns-then-follows : goal.returns-then-follows
returns-then-follows c =
    meant c.loop-place.invariant c.loop-place-test.true c.if-ways-place.true (sym c.follows.ensures ∙ c.if-follows.true)

pub loop-place-preserved : goal.loop-place-preserved
loop-place-preserved c =
    passed c.loop-place.invariant c.loop-place-test.true
    (elim c.else-ways-place.branch [
      | else-ways-place-via-then-ways-place+else-follows w ↦ λ on good. clash good (sym w.follows.ensures ∙ w.if-follows.false)
      | else-ways-place-via-else-ways-place w ↦ λ on good. w.if-ways-place.false on
    ])

pub returns : goal.returns
returns c =
    let l = c.loop-place in
    record {
      inside = omega arith;
      is = λ k. absurd (omega arith);
      first = λ w k f g. l.invariant.none w (omega (arith, l.auto.place-end, c.loop-place-test.false)) f g;
    }
