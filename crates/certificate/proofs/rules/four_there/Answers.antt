-- The four are tested in the order of the definition.
use mathlib.Core.Path.{sym, ◌∙◌}
use native.Mathlib.Omega.{arith}
use Rattle.der.specs.Forms.{paper}
use Rattle.extensions.specs.Extensions.{lookup_of, oid_of, held_of}
use Rattle.certificate.specs.Rules.{rule12}
use Rattle.certificate.proofs.rules.four_there.Goals as goal

pub returns-then-not-there_uncritical : goal.returns-then-not-there_uncritical
unfolding rule12 oid_of held_of
returns-then-not-there_uncritical c = λ s x p. rw (sym (c.there_uncritical.ensures (lookup_of paper s x (oid_of 2)) (p.each 2 (omega arith))) ∙ c.if-not-there_uncritical.true)

pub returns-then-not-there_uncritical-2 : goal.returns-then-not-there_uncritical-2
unfolding rule12 oid_of held_of
returns-then-not-there_uncritical-2 c = λ s x p. rw (sym (c.there_uncritical.ensures (lookup_of paper s x (oid_of 2)) (p.each 2 (omega arith))) ∙ c.if-not-there_uncritical.false, sym (c.there_uncritical-2.ensures (lookup_of paper s x (oid_of 3)) (p.each 3 (omega arith))) ∙ c.if-not-there_uncritical-2.true)

pub returns-then-not-there_uncritical-3 : goal.returns-then-not-there_uncritical-3
unfolding rule12 oid_of held_of
returns-then-not-there_uncritical-3 c =
    λ s x p. rw (sym (c.there_uncritical.ensures (lookup_of paper s x (oid_of 2)) (p.each 2 (omega arith))) ∙ c.if-not-there_uncritical.false, sym (c.there_uncritical-2.ensures (lookup_of paper s x (oid_of 3)) (p.each 3 (omega arith))) ∙ c.if-not-there_uncritical-2.false, sym (c.there_uncritical-3.ensures (lookup_of paper s x (oid_of 4)) (p.each 4 (omega arith))) ∙ c.if-not-there_uncritical-3.true)

pub returns : goal.returns
unfolding rule12 oid_of held_of
returns c =
    λ s x p. rw (sym (c.there_uncritical.ensures (lookup_of paper s x (oid_of 2)) (p.each 2 (omega arith))) ∙ c.if-not-there_uncritical.false, sym (c.there_uncritical-2.ensures (lookup_of paper s x (oid_of 3)) (p.each 3 (omega arith))) ∙ c.if-not-there_uncritical-2.false, sym (c.there_uncritical-3.ensures (lookup_of paper s x (oid_of 4)) (p.each 4 (omega arith))) ∙ c.if-not-there_uncritical-3.false) (c.there_uncritical-4.ensures (lookup_of paper s x (oid_of 17)) (p.each 17 (omega arith)))
