-- The octet is there or it is not, and only version 2 has it.
use mathlib.Core.Path.{sym}
use borrow.Author.Tests.{eq-eqb, ne_eqb}
use Rattle.image.specs.Index.{letter_at}
use Rattle.image.proofs.Fields.{field-one, letter-past}
use native.Mathlib.Omega.{arith}
use Rattle.image.proofs.letter.Goals as goal

pub returns-then-version-ne2 : goal.returns-then-version-ne2
unfolding letter_at
returns-then-version-ne2 c = simp (ne_eqb _ _ c.if-version-ne2.true)

pub returns-then-image-at : goal.returns-then-image-at
returns-then-image-at c = letter-past _ _ _ c.if-image-at.true

pub returns : goal.returns
unfolding letter_at
returns c = rw (eq-eqb _ _ c.if-version-ne2.false) (sym (field-one _ _ (omega (arith, c.if-image-at.false))))
