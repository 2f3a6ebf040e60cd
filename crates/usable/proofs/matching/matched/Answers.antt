-- Each test answers one law of the definition.
use mathlib.Core.Path.{sym, ap₂, ◌∙◌}
use native.Mathlib.Omega.{arith}
use Rattle.usable.specs.Rows.{fits_of}
use Rattle.usable.proofs.RowLaws.{matched-unled, matched-led}
use Rattle.usable.proofs.matching.matched.Goals as goal

pub returns-else-led : goal.returns-else-led
returns-else-led c = (
  (λ h k. c.if-led.false ∙ sym (matched-unled _ _ _ _ (sym c.led.ensures ∙ c.if-led.false))),
  (λ h. c.if-led.false),
  (λ h. c.if-led.false),
)

pub returns-then-led : goal.returns-then-led
returns-then-led c = (
  (λ h k.
      c.fits.ensures ∙ ap₂ (fits_of _) c.row_at.ensures c.row_at-then-led.ensures ∙ sym (matched-led _ _ _ _ (sym c.led.ensures ∙ c.if-led.true))),
  (λ h. absurd (omega arith)),
  (λ h. absurd (omega arith)),
)
