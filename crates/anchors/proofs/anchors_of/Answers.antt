-- Letters from A to Z fit in an octet.
use mathlib.Core.Path.{sym, ◌∙◌}
use native.Mathlib.Omega.{arith}
use Rattle.anchors.proofs.Tests.{first_fits, second_fits}
use Rattle.anchors.proofs.anchors_of.Goals as goal

pub overflow_cast-first : goal.overflow_cast-first
overflow_cast-first c = omega (arith, first_fits _ _ (sym c.capitals.ensures ∙ c.if-not-capitals.false))

pub overflow_cast-second : goal.overflow_cast-second
overflow_cast-second c = omega (arith, second_fits _ _ (sym c.capitals.ensures ∙ c.if-not-capitals.false))
