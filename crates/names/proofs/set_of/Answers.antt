-- The attributes from this one on, with the countryNames seen before it, come to what the whole SET comes to.
use mathlib.Core.Path.{◌≡◌, sym, ◌∙◌}
use native.Mathlib.Omega.{arith}
use Rattle.der.specs.Forms.{paper}
use Rattle.elements.specs.Elements.{members_of}
use Rattle.names.specs.Names.{attributes_of, one_set}
use Rattle.elements.proofs.Members.{members-more, found_within}
use Rattle.names.proofs.Sets.{attributes-bad, attributes-other, attributes-country, attributes-done, set-not, set-empty, set-filled}
use Rattle.names.proofs.set_of.Goals as goal
use Rattle.names.proofs.set_of.Goals.{Joined-attribute_of, in-Other, in-Country}

-- past this attribute
further : (c : Joined-attribute_of) →
    let args = c.args in
    let item = args.item.now in
    attributes_of paper item (members_of paper item c.loop-value.attribute.end args.e.end) c.match-attribute_of.seen ≡ one_set paper item args.e args.before
further c =
    elim c.match-attribute_of.branch [
      | in-Other w ↦ rw w.seen-is (sym (attributes-other _ _ _ _ (sym c.attribute_of.ensures ∙ w.in-Other.is)) ∙ c.loop-value.invariant)
      | in-Country w ↦
          rw (w.seen-is, w.one_more-seen.ensures) (sym (attributes-country _ _ _ _ (sym c.attribute_of.ensures ∙ w.in-Country.is)) ∙ c.loop-value.invariant)
    ]

pub returns-then-e-ne49 : goal.returns-then-e-ne49
returns-then-e-ne49 c = sym (set-not _ _ _ c.if-e-ne49.true)

pub returns-in_err-attribute : goal.returns-in_err-attribute
returns-in_err-attribute c = c.from_residual.ensures ∙ sym (set-empty _ _ _ c.if-e-ne49.false (sym c.element_at.ensures ∙ c.in_err-attribute.was))

pub loop-value-init : goal.loop-value-init
loop-value-init c = sym (set-filled _ _ _ c.if-e-ne49.false (sym c.element_at.ensures ∙ c.in_ok-attribute.was))

pub returns-in-Misshapen : goal.returns-in-Misshapen
returns-in-Misshapen c = sym (attributes-bad _ _ _ _ (sym c.attribute_of.ensures ∙ c.in-Misshapen.is)) ∙ c.loop-value.invariant

pub returns-in_default : goal.returns-in_default
returns-in_default c =
    sym (attributes-done _ _ _ _ (sym c.element_at-in-loop-value.ensures ∙ c.in_default.is)) ∙ further (goal.at.returns-in_default c).Joined-attribute_of

pub loop-value-smaller : goal.loop-value-smaller
loop-value-smaller c = omega (arith, found_within _ _ _ (sym c.element_at-in-loop-value.ensures ∙ c.in-Some.is))

pub loop-value-preserved : goal.loop-value-preserved
loop-value-preserved c = rw (members-more _ _ _ (sym c.element_at-in-loop-value.ensures ∙ c.in-Some.is)) at (further (goal.at.loop-value-preserved c).Joined-attribute_of)
