-- The round stands before the row of the place that comes next; a place that is not so far, or a signer, has none to follow.
use Prim.Native.Nat.{ℕ, ◌+◌, ◌<◌}
use mathlib.Core.Path.{◌≡◌, sym, ◌∙◌}
use mathlib.Core.List.{List}
use native.Mathlib.Omega.{arith}
use borrow.Author.Tests.{eq-eqb}
use lib.ListN.{get_or}
use Rattle.graph.specs.Chains.{graph_of}
use Rattle.graph.specs.Search.{followed}
use Rattle.graph.specs.Rounds.{InRound}
use Rattle.graph.proofs.Cases.{clash}
use Rattle.graph.proofs.RoundTurns.{row-passed, row_done, rows-done}
use Rattle.graph.proofs.Steps.{from-signer}
use Rattle.graph.proofs.Walks.{distance-place}
use Rattle.graph.proofs.rounds.round.Invariants.{Turn}
use Rattle.graph.proofs.rounds.round.Goals as goal
use Rattle.graph.proofs.rounds.round.Goals.{then-onward, else-onward}

module _ {places : ℕ} {roles steps : List ℕ} {far : ℕ} {distance : List ℕ} {marked u : ℕ} (t : Turn places roles steps far distance marked u) (h : u < places) where
  one-row :
      {more : List ℕ} {count : ℕ} → InRound places (followed places (graph_of places roles steps)) more far (u + 1) 0 count
      → Turn places roles steps far more count (u + 1)
  one-row a = record { small = t.small; late = t.late; stands = a }

  -- a row that is followed, and one of a place that is not so far or a signer
  followed-row :
      {more : List ℕ} {count : ℕ} → InRound places (followed places (graph_of places roles steps)) more far u places count
      → Turn places roles steps far more count (u + 1)
  followed-row a = one-row (row_done t.small (omega arith) a)

  passed-row : (get_or distance u 0 ≡ far → get_or roles u 0 ≡ 3) → Turn places roles steps far distance marked (u + 1)
  passed-row signer =
      one-row
      (row-passed t.small (omega arith) t.stands
      (λ is v l f.
      let e = signer (sym (distance-place places distance u h) ∙ is) in
      clash f (from-signer places (graph_of places roles steps) v h (eq-eqb _ _ e))))

pub loop-u-init : goal.loop-u-init
loop-u-init c = let p = c.requires in record { small = p.places_bound.0; late = p.places_bound.1; stands = p.in_round }

pub bounds-distance-u : goal.bounds-distance-u
bounds-distance-u c = omega (arith, c.loop-u.invariant.small, c.loop-u-test.true)

pub reach-marked-requires : goal.reach-marked-requires
reach-marked-requires c =
    let t = c.loop-u.invariant in
    let leads = c.onward.ensures.0 c.if-onward.true in
    record {
      places_bound = (t.small, omega (arith, c.loop-u-test.true), distance-place _ _ _ c.loop-u-test.true ∙ leads.0);
      fact = λ l. leads.1;
      in_round = t.stands;
    }

pub loop-u-preserved : goal.loop-u-preserved
loop-u-preserved c =
    let t = c.loop-u.invariant in
    let h = c.loop-u-test.true in
    elim c.if-onward.branch [
      | then-onward w ↦ rw (w.distance-is, w.marked-is) (followed-row t h w.reach-marked.ensures)
      | else-onward w ↦ rw (w.distance-is, w.marked-is) (passed-row t h (c.onward.ensures.1 w.if-onward.false))
    ]

pub returns : goal.returns
returns c =
    let l = c.loop-u in
    let e : l.u ≡ c.args.places = omega (arith, l.auto.u-end, c.loop-u-test.false) in
    rows-done l.invariant.small l.invariant.late (rw e at l.invariant.stands)
