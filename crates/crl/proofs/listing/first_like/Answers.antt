-- Each entry that is passed by has another serial.
use mathlib.Core.Path.{refl, ◌∙◌}
use native.Mathlib.Omega.{arith}
use Rattle.crl.proofs.FastEntries.{none-lost, farther}
use Rattle.crl.proofs.listing.first_like.Goals as goal

pub loop-next-init : goal.loop-next-init
loop-next-init c = record { none = refl; nearer = omega arith }

pub returns-in_default : goal.returns-in_default
returns-in_default c = c.loop-next.invariant

pub loop-next-smaller : goal.loop-next-smaller
loop-next-smaller c = farther (c.in-Some.ensures)

pub loop-next-preserved : goal.loop-next-preserved
loop-next-preserved c =
    let past = c.in-Some.ensures in
    record { none = c.loop-next.invariant.none ∙ none-lost past; nearer = omega (arith, c.loop-next.invariant.nearer, farther past) }
