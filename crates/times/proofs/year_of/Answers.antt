-- The tag says which of the two forms the year has.
use native.Mathlib.Omega.{arith}
use borrow.Author.Tests.{ne_eqb}
use Rattle.times.specs.Times.{time_in}
use Rattle.times.proofs.year_of.Goals as goal

pub returns-in_default : goal.returns-in_default
unfolding time_in
returns-in_default c = simp (ne_eqb c.args.tag 0x17 (λ e. omega arith), ne_eqb c.args.tag 0x18 (λ e. omega arith))
