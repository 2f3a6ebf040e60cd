-- An OID of a slot has its three octets, the last of them between 14 and 35.
use native.Mathlib.Omega.{arith}
use Rattle.extensions.proofs.Slots.{unslotted, three-slot, slot-three}
use Rattle.extensions.proofs.slot.slot_by.Goals as goal

pub returns-then-a-ne85 : goal.returns-then-a-ne85
returns-then-a-ne85 c = (omega arith, λ k l. unslotted _ k l λ e. c.if-a-ne85.true (three-slot _ _ _ k e).0)

pub returns-then-b-ne29 : goal.returns-then-b-ne29
returns-then-b-ne29 c = (omega arith, λ k l. unslotted _ k l λ e. c.if-b-ne29.true (three-slot _ _ _ k e).1)

pub returns-then-c-lt14 : goal.returns-then-c-lt14
returns-then-c-lt14 c = (omega arith, λ k l. unslotted _ k l λ e. omega (arith, c.if-c-lt14.true, three-slot _ _ _ k e))

pub returns-then-c-gt35 : goal.returns-then-c-gt35
returns-then-c-gt35 c = (omega arith, λ k l. unslotted _ k l λ e. omega (arith, c.if-c-gt35.true, three-slot _ _ _ k e))

pub returns : goal.returns
returns c = (omega arith, λ k l. slot-three _ _ _ k c.if-a-ne85.false c.if-b-ne29.false c.if-c-lt14.false c.if-c-gt35.false)
