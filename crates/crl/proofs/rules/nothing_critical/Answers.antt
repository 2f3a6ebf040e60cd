-- The extensions of the CRL are told by the pass over them, those of the entries were with rule 1.
use Rattle.std.proofs.Common.{arith}
use Rattle.std.proofs.lemmas.Grind.{common_steps}
use Rattle.crl.specs.Rules.{rule8}
use Rattle.crl.proofs.OwnExtensions.{own-marked}
use Rattle.crl.proofs.rules.nothing_critical.Goals as goal

pub returns-then-not-own : goal.returns-then-not-own
unfolding rule8
returns-then-not-own c = λ s h. let marked = own-marked s _ h in grind (arith, common_steps)

pub returns-else-not-own : goal.returns-else-not-own
unfolding rule8
returns-else-not-own c = λ s h. let marked = own-marked s _ h in grind (arith, common_steps)
