-- An offset within the first image is one of it, and any other one of the update.
use mathlib.Core.Path.{sym, ◌∙◌}
use Rattle.pair.proofs.PartLaws.{part-first, part-update}
use Rattle.pair.proofs.parts.part_over.Goals as goal

pub returns-then-from-own : goal.returns-then-from-own
returns-then-from-own c = c.part.ensures ∙ sym (part-first _ _ _ _ c.if-from-own.true)

pub returns : goal.returns
returns c = c.part-2.ensures ∙ sym (part-update _ _ _ _ c.if-from-own.false)
