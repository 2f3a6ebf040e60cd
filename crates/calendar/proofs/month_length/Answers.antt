-- February's length goes by the leap year.
use mathlib.Core.Path.{◌∙◌, sym}
use Rattle.calendar.proofs.Days.{length_two, february-leap, february-common}
use Rattle.calendar.proofs.month_length.Goals as goal

pub returns-in-2 : goal.returns-in-2
returns-in-2 c = sym (length_two _ _ c.in-2.is ∙ february-leap _ (sym c.leap_year.ensures ∙ c.if-leap_year.true))

pub returns-in-2-2 : goal.returns-in-2-2
returns-in-2-2 c = sym (length_two _ _ c.in-2.is ∙ february-common _ (sym c.leap_year.ensures ∙ c.if-leap_year.false))
