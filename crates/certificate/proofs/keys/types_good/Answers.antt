-- Of the strings, those from `at` on are left: the answer for all is the answer for them.
use Rattle.std.proofs.Common.{arith, sym, ◌∙◌}
use Rattle.std.proofs.lemmas.Grind.{common_steps}
use Rattle.elements.specs.Elements.{inside}
use Rattle.certificate.specs.Keys.{types_good, types_in}
use Rattle.elements.proofs.Members.{members-none, members-more, found_within}
use Rattle.certificate.proofs.Inside.{some-inside}
use Rattle.certificate.proofs.keys.types_good.Goals as goal

pub returns-then-is_none : goal.returns-then-is_none
unfolding types_in
returns-then-is_none c = rw some-inside (grind (arith, common_steps))

pub returns-in_default : goal.returns-in_default
unfolding types_in inside types_good
returns-in_default c =
    let none = members-none _ _ _ (sym c.element_at-in-loop-e.ensures ∙ c.in_default.is) in
    grind (arith, common_steps, some-inside)

pub returns-then-e-ne19 : goal.returns-then-e-ne19
unfolding types_in inside types_good
returns-then-e-ne19 c =
    let more = members-more _ _ _ (sym c.element_at-in-loop-e.ensures ∙ c.in-Some.is) in
    grind (arith, common_steps, some-inside)

pub loop-e-smaller : goal.loop-e-smaller
loop-e-smaller c = omega (arith, found_within _ _ _ (sym c.element_at-in-loop-e.ensures ∙ c.in-Some.is))

pub loop-e-preserved : goal.loop-e-preserved
unfolding types_good
loop-e-preserved c =
    let more = members-more _ _ _ (sym c.element_at-in-loop-e.ensures ∙ c.in-Some.is) in
    grind (arith, common_steps)
