-- A chain ends at the target, and a blank row is of a target that no chain leads to; else the tables decide.
use Prim.Native.Nat.{◌-◌}
use native.Mathlib.Omega.{arith}
use lib.ListN.{length}
use Rattle.graph.proofs.Places.{last}
use Rattle.chain.specs.Given.{no}
use Rattle.chain.proofs.ImageRounds.{blank-target}
use Rattle.chain.proofs.proposal.good_chain.Goals as goal

pub overflow_sub-last : goal.overflow_sub-last
overflow_sub-last c = omega (arith, c.requires.5.two)

pub bounds-places-last : goal.bounds-places-last
bounds-places-last c = omega (arith, c.requires.5.two)

pub overflow_cast-places : goal.overflow_cast-places
overflow_cast-places c = omega (arith, c.type_inv.places (length c.args.places.now - 1))

pub returns-then-places-last : goal.returns-then-places-last
returns-then-places-last c =
    no (λ d. c.if-places-last.true (last d (length c.args.places.now - 1) (omega (arith, c.requires.5.two))))

pub open_place-signer-requires : goal.open_place-signer-requires
open_place-signer-requires c = (c.requires.0, omega (arith, c.requires.1, c.requires.3))

pub returns-then-signer-eq0 : goal.returns-then-signer-eq0
returns-then-signer-eq0 c =
    no (blank-target _ _ _ _ _ c.requires.1 c.open_place-signer.result c.open_place-signer.ensures c.if-signer-eq0.true _)

pub good_home-requires : goal.good_home-requires
good_home-requires c =
    (c.requires.0, c.requires.1, c.requires.2, c.requires.3, c.requires.4, c.open_place-signer.ensures, c.if-signer-eq0.false, c.requires.5, c.if-places-last.false)
