-- The flags decide, and then the letters of the entry or those of the item.
use mathlib.Core.Path.{refl, ap, ◌∙◌}
use Rattle.letters.specs.TrueLetters.{spells}
use Rattle.anchors.proofs.Tests.{not-enabled, by_index, by-report}
use Rattle.anchors.proofs.asked_for.Goals as goal
use Rattle.anchors.proofs.asked_for.Goals.{then-indexed, else-indexed}

pub returns-then-e-ne1 : goal.returns-then-e-ne1
returns-then-e-ne1 c = not-enabled _ _ refl _ _ c.requires c.entry-e.ensures.own _ c.if-e-ne1.true

pub returns : goal.returns
returns c =
    elim c.if-indexed.branch [
      | then-indexed w ↦
          by_index _ _ refl _ _ c.requires c.entry-e.ensures.own c.if-e-ne1.false w.if-indexed.true
          (c.spell.ensures ∙ ap (spells c.args.first c.args.second) w.told-is)
      | else-indexed w ↦
          by-report _ _ refl _ _ c.requires c.entry-e.ensures.own c.if-e-ne1.false w.if-indexed.false w.item.ensures
          (w.told-is ∙ w.true_letters-told.ensures) c.spell.ensures
    ]
