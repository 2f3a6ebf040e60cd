-- The records of the places so far are put, and each further one leaves them.
use Prim.Native.Nat.{◌+◌, ◌*◌, ◌≤◌}
use mathlib.Core.Path.{refl, ◌∙◌}
use mathlib.Core.List.{◌∷◌}
use native.Mathlib.Omega.{arith}
use lib.ListN.{length}
use lib.Seq.{length-paste}
use Rattle.search.proofs.RecordsPut.{none_yet, one_more, all_done}
use Rattle.search.proofs.all.record_all.Goals as goal

pub loop-place-init : goal.loop-place-init
loop-place-init c = (refl, λ step s. none_yet)

pub chain_in-found-requires : goal.chain_in-found-requires
chain_in-found-requires c = let p = c.requires in record { places_bound = p.0; paths = p.2 }

pub overflow_mul-place : goal.overflow_mul-place
overflow_mul-place c = omega (arith, c.requires.0, c.loop-place-test.true)

pub put-requires : goal.put-requires
put-requires c =
    (c.chain_in-found.ensures.1, omega (arith, c.requires.1, c.loop-place-test.true, c.loop-place.invariant.0))

pub loop-place-preserved : goal.loop-place-preserved
loop-place-preserved c =
    let below = c.loop-place-test.true in
    let now = c.loop-place in
    let i = now.invariant in
    let asked = c.chain_in-found in
    let found = asked.result in
    let written = c.put.ensures in
    let fits : 97 * now.place + 97 ≤ length now.out = omega (arith, c.requires.1, i.0, below) in (
      rw written.1 (length-paste now.out (97 * now.place) (found.length ∷ found.places) 97 fits (omega (arith, written.0)) ∙ i.0),
      λ step q. rw written.1 (one_more (i.1 step q) below c.requires.1 (asked.ensures.0 step q) written.0),
    )

pub shape_of-out : goal.shape_of-out
shape_of-out c = c.loop-place.invariant.0

pub returns : goal.returns
returns c = λ step q. all_done (c.loop-place.invariant.1 step q) c.loop-place-test.false
