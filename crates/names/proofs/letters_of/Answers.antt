-- The code makes the definition's tests in its order.
use Rattle.std.specs.Prelude.{None}
use Prim.Native.Nat.{ℕ}
use mathlib.Core.List.{List}
use mathlib.Core.Path.{◌≡◌, refl, sym, ◌∙◌}
use borrow.Author.Tests.{eq-eqb, ne_eqb}
use Rattle.elements.specs.declared.elements.Element.{Element}
use Rattle.names.specs.declared.Seen.{Seen}
use Rattle.names.specs.declared.Seen.TheVariants.{Never, Once, Often}
use Rattle.names.specs.Names.{letters_of, letters_in}
use Rattle.names.proofs.letters_of.Goals as goal
use Rattle.names.proofs.letters_of.Goals.{
  then-c-ne2-via-then-c-ne2,
  then-c-ne2-via-else-c-ne2+then-not-capital,
  then-c-ne2-via-else-c-ne2+else-not-capital+then-not-capital-2,
}

-- no countryName, or several
none-once : (s : List ℕ) (seen : Seen) → ((value : Element) → seen ≡ Once value → ⊥) → None ≡ letters_of s seen
unfolding letters_of
none-once s Never h = refl
none-once s Often h = refl
none-once s (Once value) h = absurd (h value refl)

pub returns-in_default : goal.returns-in_default
returns-in_default c = none-once c.args.item.now c.args.seen c.in_default.not-Once

pub returns-then-value-ne19 : goal.returns-then-value-ne19
unfolding letters_of letters_in
returns-then-value-ne19 c = simp (c.in-Once.is, ne_eqb _ _ c.if-value-ne19.true)

pub returns-then-c-ne2 : goal.returns-then-c-ne2
unfolding letters_of letters_in
returns-then-c-ne2 c =
    simp (c.in-Once.is, eq-eqb _ _ c.if-value-ne19.false, sym c.contents-c.ensures)
    (elim c.then-c-ne2.branch [
      | then-c-ne2-via-then-c-ne2 w ↦ simp (ne_eqb _ _ w.if-c-ne2.true)
      | then-c-ne2-via-else-c-ne2+then-not-capital w ↦ simp (eq-eqb _ _ w.if-c-ne2.false, sym w.capital.ensures ∙ w.if-not-capital.true)
      | then-c-ne2-via-else-c-ne2+else-not-capital+then-not-capital-2 w ↦
          simp (
            eq-eqb _ _ w.if-c-ne2.false,
            sym w.capital.ensures ∙ w.if-not-capital.false,
            sym w.capital-else-not-capital.ensures ∙ w.if-not-capital-2.true,
          )
    ])

pub returns : goal.returns
unfolding letters_of letters_in
returns c =
    simp (
      c.in-Once.is,
      eq-eqb _ _ c.if-value-ne19.false,
      sym c.contents-c.ensures,
      eq-eqb _ _ c.if-c-ne2.false,
      sym c.capital.ensures ∙ c.if-not-capital.false,
      sym c.capital-else-not-capital.ensures ∙ c.if-not-capital-2.false,
    )
