-- A reason code and a list of none are known by their octets; any other list is passed over.
use mathlib.Core.Path.{refl, sym, ◌∙◌}
use native.Mathlib.Omega.{arith}
use borrow.Author.Tests.{eqb-true, not-true}
use Rattle.der.specs.Heading.{identifier_good}
use Rattle.crl.proofs.Digits.{never}
use Rattle.crl.proofs.FastEntries.{header-told, short}
use Rattle.crl.proofs.ReasonCodes.{empty-mild, reason-mild}
use Rattle.crl.proofs.reasons.calm_list.Goals as goal

pub returns-then-is_reason : goal.returns-then-is_reason
returns-then-is_reason c =
    λ yes. reason-mild _ _ _ c.requires.1 c.if-end-from.true (c.is_reason.ensures c.if-is_reason.true)

pub returns-then-end-from-2 : goal.returns-then-end-from-2
returns-then-end-from-2 c =
    λ some.
    let told = header-told {p = 0x30} {q = 0} (c.type_inv.item _).fits (omega arith) c.four.ensures refl
    (eqb-true _ _ some) in
    empty-mild _ _ _ c.requires.1 c.if-end-from-2.true told.0 told.1

pub returns-then-not-fills : goal.returns-then-not-fills
returns-then-not-fills c = λ no. never no

pub returns-then-not-seen : goal.returns-then-not-seen
unfolding identifier_good
returns-then-not-seen c =
    λ some.
    let whole = short 0x30 refl (c.fills.ensures.whole c.if-not-fills.false) in
    record { low = whole.low; found = whole.found; fit = sym c.outline_of-seen.ensures.0 ∙ some; calm = sym c.outline_of-seen.ensures.1 ∙ not-true _ c.if-not-seen.true }
