-- That it is there is tested, and the flag is turned round.
use mathlib.Core.List.{[]}
use Rattle.certificate.proofs.Held.{uncritical-none, uncritical-some}
use Rattle.certificate.proofs.rules.there_uncritical.Goals as goal

pub returns-in-None : goal.returns-in-None
returns-in-None c = λ x h. uncritical-none [] x h c.in-None.is

pub returns-in-Some : goal.returns-in-Some
returns-in-Some c = λ x h. uncritical-some [] c.in-Some.is x h
