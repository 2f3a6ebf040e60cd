-- Each test that passes is a part of what is told.
use Prim.Native.Nat.{◌+◌}
use native.Mathlib.Omega.{arith}
use Rattle.crl.proofs.FastEntries.{left-told}
use Rattle.crl.proofs.usual.opens.Goals as goal

pub overflow_cast-size : goal.overflow_cast-size
overflow_cast-size c =
    omega (arith, c.type_inv.item (c.args.at + 1))

pub returns-then-size-lt128 : goal.returns-then-size-lt128
returns-then-size-lt128 c =
    λ some.
    record {
      inside = c.if-item-end.false;
      room = omega (arith, c.if-end-lt4.false, c.if-end-at.false);
      tag = c.if-item-at-ne48.false;
      first = c.if-item-at-ne2.false;
      brief = c.if-size-lt128.true;
      fits = left-told _ _ _ (omega (arith, c.if-end-lt4.false, c.if-end-at.false)) some;
    }
