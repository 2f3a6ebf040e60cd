-- The first SET decides what is read.
use mathlib.Core.Path.{sym, ap, ◌∙◌}
use native.Mathlib.Omega.{arith}
use Rattle.names.specs.Country.{begins, country_in}
use Rattle.names.specs.Names.{on_name}
use Rattle.names.proofs.FirstSet.{begins-fits}
use Rattle.names.proofs.country.country_in.Goals as goal

pub overflow_add-value : goal.overflow_add-value
overflow_add-value c = omega (arith, begins-fits _ c.args.e (sym (ap begins c.contents.ensures) ∙ sym c.begins_usual.ensures ∙ c.if-begins_usual.true))

pub overflow_add-value-then-begins_usual : goal.overflow_add-value-then-begins_usual
overflow_add-value-then-begins_usual c = omega (arith, begins-fits _ c.args.e (sym (ap begins c.contents.ensures) ∙ sym c.begins_usual.ensures ∙ c.if-begins_usual.true))

pub overflow_add-value-then-begins_usual-2 : goal.overflow_add-value-then-begins_usual-2
overflow_add-value-then-begins_usual-2 c = omega (arith, begins-fits _ c.args.e (sym (ap begins c.contents.ensures) ∙ sym c.begins_usual.ensures ∙ c.if-begins_usual.true))

pub returns-then-begins_usual : goal.returns-then-begins_usual
unfolding country_in
returns-then-begins_usual c =
    rw (← c.contents.ensures, sym c.begins_usual.ensures ∙ c.if-begins_usual.true) c.letters_of.ensures

pub returns-in_err-name_of : goal.returns-in_err-name_of
unfolding country_in on_name
returns-in_err-name_of c =
    rw (← c.contents.ensures, sym c.begins_usual.ensures ∙ c.if-begins_usual.false, sym c.name_of.ensures ∙ c.in_err-name_of.was) c.from_residual.ensures

pub returns : goal.returns
unfolding country_in on_name
returns c =
    rw (← c.contents.ensures, sym c.begins_usual.ensures ∙ c.if-begins_usual.false, sym c.name_of.ensures ∙ c.in_ok-name_of.was) c.letters_of-2.ensures
