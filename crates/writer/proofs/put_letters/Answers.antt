-- Version 2 has room for four octets more, which are stored one after the other; version 1 has none.
use Prim.Native.Nat.{◌≤◌}
use native.Mathlib.Omega.{arith}
use borrow.Author.Tests.{eq-eqb, ne_eqb}
use lib.ListN.{length, length-set}
use Rattle.image.specs.Items.{letters_bytes}
use Rattle.image.specs.Index.{width}
use Rattle.image.proofs.Widths.{width-lettered}
use Rattle.writer.proofs.Stores.{set-four}
use Rattle.writer.proofs.put_letters.Goals as goal
use Rattle.writer.proofs.put_letters.Goals.{Then-version-eq2}

room : (c : Then-version-eq2) → 4 ≤ length c.args.out.now
room c = omega (arith, c.requires, width-lettered c.if-version-eq2.true)

pub bounds-out-0 : goal.bounds-out-0
bounds-out-0 c = omega (arith, room (goal.at.bounds-out-0 c).Then-version-eq2)

pub bounds-out-1 : goal.bounds-out-1
bounds-out-1 c = simp length-set (omega (arith, room (goal.at.bounds-out-1 c).Then-version-eq2))

pub bounds-out-2 : goal.bounds-out-2
bounds-out-2 c = simp length-set (omega (arith, room (goal.at.bounds-out-2 c).Then-version-eq2))

pub bounds-out-3 : goal.bounds-out-3
bounds-out-3 c = simp length-set (omega (arith, room (goal.at.bounds-out-3 c).Then-version-eq2))

pub returns-then-version-eq2 : goal.returns-then-version-eq2
unfolding letters_bytes width
returns-then-version-eq2 c = rw (eq-eqb _ _ c.if-version-eq2.true) (set-four c.args.out.now _ _ _ _ (room (goal.at.returns-then-version-eq2 c).Then-version-eq2))

pub returns-else-version-eq2 : goal.returns-else-version-eq2
unfolding letters_bytes width
returns-else-version-eq2 c = rw (ne_eqb _ _ c.if-version-eq2.false)
