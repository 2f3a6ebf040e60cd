-- The definition goes by cases of the value that is held, as the code does.
use mathlib.Core.Path.{sym, ◌∙◌}
use Rattle.certificate.specs.Values.{on_value}
use Rattle.certificate.proofs.Held.{documents-in}
use Rattle.certificate.proofs.keys.document_types.Goals as goal

pub returns-in-Missing : goal.returns-in-Missing
unfolding on_value
returns-in-Missing c = λ x h. let s = c.args.item.now in rw (documents-in s x h, sym c.value_in.ensures ∙ c.in-Missing.is)

pub returns-in-Unfit : goal.returns-in-Unfit
unfolding on_value
returns-in-Unfit c = λ x h. let s = c.args.item.now in rw (documents-in s x h, sym c.value_in.ensures ∙ c.in-Unfit.is)

pub returns-in-Stands : goal.returns-in-Stands
unfolding on_value
returns-in-Stands c = λ x h. let s = c.args.item.now in rw (documents-in s x h, sym c.value_in.ensures ∙ c.in-Stands.is) c.list_good.ensures
