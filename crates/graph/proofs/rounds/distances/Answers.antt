-- The round that was done is whole; one that marked nothing was the last, and there are no more rounds than slots.
use mathlib.Core.Path.{refl}
use native.Mathlib.Omega.{arith}
use Rattle.graph.proofs.RoundTurns.{round-begin, round_room, round-next, round-end}
use Rattle.graph.proofs.Walks.{distance-outside}
use Rattle.graph.proofs.rounds.distances.Goals as goal

pub reach-marked-requires : goal.reach-marked-requires
reach-marked-requires c =
    record {
      places_bound = (c.requires, omega arith, distance-outside _ _ _ refl);
      fact = λ l. absurd (omega arith);
      in_round = round-begin _ _ c.requires;
    }

pub loop-marked-init : goal.loop-marked-init
loop-marked-init c = (c.requires, c.reach-marked.ensures)

pub overflow_add-far : goal.overflow_add-far
overflow_add-far c = let i = c.loop-marked.invariant in omega (arith, round_room i.0 i.1)

pub round-marked-requires : goal.round-marked-requires
round-marked-requires c =
    let i = c.loop-marked.invariant in
    record { places_bound = (i.0, omega arith); in_round = round-next i.0 i.1 c.loop-marked-test.true }

pub loop-marked-smaller : goal.loop-marked-smaller
loop-marked-smaller c = let i = c.loop-marked.invariant in omega (arith, round_room i.0 i.1)

pub loop-marked-preserved : goal.loop-marked-preserved
loop-marked-preserved c = (c.loop-marked.invariant.0, c.round-marked.ensures)

pub returns : goal.returns
returns c = let i = c.loop-marked.invariant in round-end i.0 i.1 c.loop-marked-test.false
