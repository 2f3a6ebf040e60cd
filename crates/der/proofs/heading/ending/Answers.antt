-- The contents fit the octets after the header just if header and contents fit them all.
use Prim.Native.Nat.{◌+◌, ◌≤◌, ◌<◌}
use borrow.Author.Tests.{le-leb, lt-leb}
use native.Mathlib.Omega.{arith}
use lib.ListN.{length}
use Rattle.der.specs.Heading.{within}
use Rattle.der.proofs.heading.ending.Goals as goal

pub returns-then-size-s : goal.returns-then-size-s
unfolding within
returns-then-size-s c =
    let a = c.args in
    let inside : a.skip + a.size ≤ length a.s.now = omega arith in
    simp (le-leb _ _ inside)

pub returns : goal.returns
unfolding within
returns c =
    let a = c.args in
    let beyond : length a.s.now < a.skip + a.size = omega arith in
    simp (lt-leb _ _ beyond)
