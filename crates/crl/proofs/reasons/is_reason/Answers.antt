-- The octets of each number are those of the number that is asked for.
use native.Mathlib.Omega.{arith}
use borrow.Author.Tests.{eqb-true}
use Rattle.crl.proofs.Digits.{never}
use Rattle.crl.proofs.ReasonCodes.{four-told}
use Rattle.crl.proofs.reasons.is_reason.Goals as goal

pub returns-then-four-ne170921008 : goal.returns-then-four-ne170921008
returns-then-four-ne170921008 c = λ no. never no

pub returns-then-four-ne492110598 : goal.returns-then-four-ne492110598
returns-then-four-ne492110598 c = λ no. never no

pub returns : goal.returns
returns c =
    let octet = c.type_inv.c in
    λ some.
    let (a, b, d, e) = four-told 0x30 12 0x30 10 (octet 0).fits (octet 1).fits (octet 2).fits (omega arith) (omega arith) (omega arith)
    c.four.ensures c.if-four-ne170921008.false in
    let (f, g, h, i) = four-told 0x06 3 0x55 0x1d (octet 4).fits (octet 5).fits (octet 6).fits (omega arith) (omega arith) (omega arith)
    c.four-2.ensures c.if-four-ne492110598.false in
    let (j, k, l, m) = four-told {d = 0} 0x15 0x04 3 0 (octet 8).fits (octet 9).fits (octet 10).fits (omega arith) (omega arith) (omega arith) c.four-3.ensures (eqb-true _ _ some) in
    record { list = (a, b); extension = (d, e); oid = (f, g); value = (k, l) }
