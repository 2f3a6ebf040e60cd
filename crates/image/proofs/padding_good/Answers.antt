-- Version 2 has room for the two octets.
use native.Mathlib.Omega.{arith}
use Rattle.image.proofs.Widths.{width-lettered}
use Rattle.image.proofs.padding_good.Goals as goal

pub two-requires : goal.two-requires
two-requires c = omega (arith, c.requires, width-lettered c.if-version-ne2.false)
