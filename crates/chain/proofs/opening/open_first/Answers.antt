-- The target's row is set, and the others are opened as in any round.
use native.Mathlib.Omega.{arith}
use lib.ListN.{length-set}
use Rattle.chain.proofs.opening.open_first.Goals as goal

pub bounds-signer-1 : goal.bounds-signer-1
bounds-signer-1 c = omega arith

pub bounds-signer-2 : goal.bounds-signer-2
bounds-signer-2 c = omega arith

pub offset_bounds-rows-target : goal.offset_bounds-rows-target
offset_bounds-rows-target c = let p = c.requires in omega (arith, p.2, p.3)

pub bounds-rows-target : goal.bounds-rows-target
bounds-rows-target c = let p = c.requires in omega (arith, p.2, p.3, p.4)

pub bounds-opened-target : goal.bounds-opened-target
bounds-opened-target c = let p = c.requires in omega (arith, p.2, p.3)

pub open_items-requires : goal.open_items-requires
open_items-requires c = let p = c.requires in (p.0, p.1, p.2, rw length-set p.4)

pub returns : goal.returns
returns c = c.open_items.ensures
