-- There is an extension just if one is found where their contents start.
use Rattle.std.proofs.Common.{arith}
use Rattle.std.proofs.lemmas.Grind.{common_steps}
use Rattle.certificate.specs.Rules.{rule8}
use Rattle.certificate.proofs.Inside.{some-inside}
use Rattle.certificate.proofs.rules.extensions_once.Goals as goal

pub returns-then-is_some : goal.returns-then-is_some
unfolding rule8
returns-then-is_some c = rw some-inside (grind (arith, common_steps))

pub returns-else-is_some : goal.returns-else-is_some
unfolding rule8
returns-else-is_some c = rw some-inside (grind (arith, common_steps))
