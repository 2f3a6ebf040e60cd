-- The rules are tried in their order, so the first that is broken is told.
use Rattle.std.proofs.Common.{arith}
use Rattle.std.proofs.lemmas.Grind.{common_steps}
use Rattle.extensions.specs.Extensions.{oid_of, held_of}
use Rattle.certificate.specs.Keys.{document_types}
use Rattle.certificate.specs.Rules.{rule9, rule10, rule11, rule13, rule14, rules9to14, told}
use Rattle.certificate.proofs.rules.rules_9_to_14.Goals as goal

pub returns-in_err-rule : goal.returns-in_err-rule
unfolding rules9to14 rule9 told oid_of held_of
returns-in_err-rule c = λ x p q.
    let nine = c.usage_good.ensures _ (p.each 1 (omega arith)) in
    grind (arith, common_steps)

pub returns-in_err-rule-2 : goal.returns-in_err-rule-2
unfolding rules9to14 rule9 rule10 told oid_of held_of
returns-in_err-rule-2 c = λ x p q.
    let nine = c.usage_good.ensures _ (p.each 1 (omega arith)) in
    let ten = c.constraints_good.ensures _ (p.each 5 (omega arith)) in
    grind (arith, common_steps)

pub returns-in_err-rule-3 : goal.returns-in_err-rule-3
unfolding rules9to14 rule9 rule10 rule11 told oid_of held_of
returns-in_err-rule-3 c = λ x p q.
    let nine = c.usage_good.ensures _ (p.each 1 (omega arith)) in
    let ten = c.constraints_good.ensures _ (p.each 5 (omega arith)) in
    grind (arith, common_steps)

pub returns-in_err-rule-4 : goal.returns-in_err-rule-4
unfolding rules9to14 rule9 rule10 rule11 told oid_of held_of
returns-in_err-rule-4 c = λ x p q.
    let nine = c.usage_good.ensures _ (p.each 1 (omega arith)) in
    let ten = c.constraints_good.ensures _ (p.each 5 (omega arith)) in
    let twelve = c.four_there.ensures _ x p in
    grind (arith, common_steps)

pub returns-in_err-rule-5 : goal.returns-in_err-rule-5
unfolding rules9to14 rule9 rule10 rule11 rule13 document_types told oid_of held_of
returns-in_err-rule-5 c = λ x p q.
    let nine = c.usage_good.ensures _ (p.each 1 (omega arith)) in
    let ten = c.constraints_good.ensures _ (p.each 5 (omega arith)) in
    let twelve = c.four_there.ensures _ x p in
    let thirteen = c.documents_good.ensures _ (p.each 22 (omega arith)) in
    grind (arith, common_steps)

pub returns : goal.returns
unfolding rules9to14 rule9 rule10 rule11 rule13 document_types rule14 told oid_of held_of
returns c = λ x p q.
    let nine = c.usage_good.ensures _ (p.each 1 (omega arith)) in
    let ten = c.constraints_good.ensures _ (p.each 5 (omega arith)) in
    let twelve = c.four_there.ensures _ x p in
    let thirteen = c.documents_good.ensures _ (p.each 22 (omega arith)) in
    grind (arith, common_steps)
