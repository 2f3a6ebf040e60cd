-- A blank row is of a target that no chain leads to; else the rounds answer.
use native.Mathlib.Omega.{arith}
use Rattle.chain.proofs.ImageRounds.{no_row}
use Rattle.chain.proofs.rounds.chain_among.Goals as goal

pub open_place-signer-requires : goal.open_place-signer-requires
open_place-signer-requires c = (c.requires.0, omega (arith, c.requires.1, c.requires.3))

pub returns-then-signer-eq0 : goal.returns-then-signer-eq0
returns-then-signer-eq0 c =
    no_row _ _ _ _ _ c.requires.1 c.open_place-signer.result c.open_place-signer.ensures c.if-signer-eq0.true c.no_chain.ensures

pub chain_home-requires : goal.chain_home-requires
chain_home-requires c =
    (c.requires.0, c.requires.1, c.requires.2, c.requires.3, c.requires.4, c.open_place-signer.ensures, c.if-signer-eq0.false)
