-- What is kept of the extensions is what the rule asks of them.
use Rattle.std.proofs.Common.{arith}
use Rattle.std.proofs.lemmas.Grind.{common_steps}
use Rattle.crl.specs.Rules.{rule7}
use Rattle.crl.proofs.OwnExtensions.{own-doubled, own-keyed, own-numbered}
use Rattle.crl.proofs.rules.extensions_good.Goals as goal

pub returns-then-own : goal.returns-then-own
unfolding rule7
returns-then-own c = λ s l h.
    let doubled = own-doubled s l.extensions h in
    let keyed = own-keyed s l.extensions h in
    let numbered = own-numbered s l.extensions h in
    grind (arith, common_steps)

pub returns-else-own : goal.returns-else-own
unfolding rule7
returns-else-own c = λ s l h.
    let doubled = own-doubled s l.extensions h in
    let keyed = own-keyed s l.extensions h in
    grind (arith, common_steps)
