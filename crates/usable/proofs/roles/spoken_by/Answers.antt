-- Each test answers one law of the definition.
use mathlib.Core.Path.{sym, ◌∙◌}
use borrow.Author.Tests.{eq-eqb, ne_eqb}
use Rattle.usable.proofs.RowLaws.{lists-parts, spoken-listed, spoken-apart, spoken-lists, spoken-covers}
use Rattle.usable.proofs.roles.spoken_by.Goals as goal

pub returns-then-before-eq2 : goal.returns-then-before-eq2
returns-then-before-eq2 c = sym (spoken-listed _ _ _ _ (eq-eqb _ _ c.if-before-eq2.true))

pub returns-then-not-same_letters : goal.returns-then-not-same_letters
returns-then-not-same_letters c =
    sym
    (spoken-apart _ _ _ _ (ne_eqb _ _ c.if-before-eq2.false) (sym c.same_letters.ensures ∙ c.if-not-same_letters.true))

pub returns-then-listed : goal.returns-then-listed
returns-then-listed c =
    sym
    (spoken-lists _ _ _ _ (ne_eqb _ _ c.if-before-eq2.false) (sym c.same_letters.ensures ∙ c.if-not-same_letters.false)
    (sym (lists-parts _ _ _ c.listed.ensures c.held.ensures c.piece.ensures) ∙ c.if-listed.true))

pub returns : goal.returns
returns c =
    sym
    (spoken-covers _ _ _ _ (ne_eqb _ _ c.if-before-eq2.false) (sym c.same_letters.ensures ∙ c.if-not-same_letters.false)
    (sym (lists-parts _ _ _ c.listed.ensures c.held.ensures c.piece.ensures) ∙ c.if-listed.false))
