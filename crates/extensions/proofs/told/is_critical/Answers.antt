-- Where nothing is let pass, to be refused is to be critical.
use mathlib.Core.Path.{sym}
use mathlib.Core.Bool.{and-true}
use Rattle.extensions.specs.Extensions.{refused_critical}
use Rattle.extensions.proofs.told.is_critical.Goals as goal

pub returns-in-None : goal.returns-in-None
unfolding refused_critical
returns-in-None c = λ s. rw c.in-None.is

pub returns-in-Some : goal.returns-in-Some
unfolding refused_critical
returns-in-Some c = λ s. rw c.in-Some.is (sym (and-true _))
