-- The second extension starts where the first ends, and ends where the list does.
use mathlib.Core.Path.{◌≡◌}
use borrow.Author.Tests.{eqb-true}
use Rattle.der.specs.Forms.{paper}
use Rattle.crl.specs.Own.{Known}
use Rattle.crl.proofs.Pairs.{pair-own}
use Rattle.crl.proofs.pair.usual_pair.Goals as goal

pub returns-in-Some-known_end : goal.returns-in-Some-known_end
returns-in-Some-known_end c =
    λ yes.
    let x = c.args.extensions in
    let last : c.in-Some-known_end.last ≡ x.end = eqb-true _ _ yes in
    let closing : Known paper c.args.item.now c.in-Some.middle x.end 0x14 x.end = rw last at c.in-Some-known_end.ensures in
    pair-own c.args.item.now x c.if-extensions-ne48.false c.in-Some.ensures closing
