-- Of the entries, those from `at` on are left: the answer for all is the answer for them.
use mathlib.Core.Path.{refl, sym, ◌∙◌}
use native.Mathlib.Omega.{arith}
use Rattle.elements.proofs.Members.{found_within, members-none, members-more}
use Rattle.crl.specs.Listed.{some_lists, listed_of}
use Rattle.crl.proofs.listing.listed.Goals as goal

pub loop-e-init : goal.loop-e-init
unfolding listed_of
loop-e-init c = refl

pub returns-in_default : goal.returns-in_default
unfolding some_lists
returns-in_default c = sym (c.loop-e.invariant ∙ c.first_like-at.ensures.none ∙ rw (members-none _ _ _ (sym c.element_at.ensures ∙ c.in_default.is)))

pub returns-then-has_serial : goal.returns-then-has_serial
unfolding some_lists
returns-then-has_serial c =
    sym (c.loop-e.invariant ∙ c.first_like-at.ensures.none ∙ rw (members-more _ _ _ (sym c.element_at.ensures ∙ c.in-Some.is), ← c.has_serial.ensures, c.if-has_serial.true))

pub loop-e-smaller : goal.loop-e-smaller
loop-e-smaller c =
    omega (arith, c.first_like-at.ensures.nearer, found_within _ _ _ (sym c.element_at.ensures ∙ c.in-Some.is))

pub loop-e-preserved : goal.loop-e-preserved
unfolding some_lists
loop-e-preserved c =
    c.loop-e.invariant ∙ c.first_like-at.ensures.none ∙ rw (members-more _ _ _ (sym c.element_at.ensures ∙ c.in-Some.is), ← c.has_serial.ensures, c.if-has_serial.false)
