-- The year, and the ten digits after it.
use Prim.Native.Nat.{◌+◌, ◌-◌}
use mathlib.Core.Path.{◌≡◌, sym, ◌∙◌}
use native.Mathlib.Omega.{arith}
use lib.ListN.{length}
use Rattle.times.specs.Times.{time_of}
use Rattle.times.proofs.time_of.Goals as goal

pub returns-in_err-year : goal.returns-in_err-year
unfolding time_of
returns-in_err-year c = c.from_residual.ensures ∙ sym (rw (← c.contents-c.ensures) c.in_err-year.ensures)

pub returns : goal.returns
unfolding time_of
returns c =
    let from = length c.contents-c.result.now - 11 in
    let ten : from + 10 - from ≡ 10 = omega arith in
    rw (← c.contents-c.ensures) (rw ten at c.within.ensures ∙ sym c.in_ok-year.ensures.is)
