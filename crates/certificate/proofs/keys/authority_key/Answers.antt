-- The definition goes by cases of the value that is held, as the code does.
use mathlib.Core.Path.{sym, ◌∙◌}
use Rattle.certificate.specs.Keys.{first_of}
use Rattle.certificate.specs.Values.{on_value}
use Rattle.certificate.proofs.Held.{key-in, first-form}
use Rattle.certificate.proofs.keys.authority_key.Goals as goal

pub returns-in-Missing : goal.returns-in-Missing
unfolding on_value
returns-in-Missing c = λ x h. let s = c.args.item.now in rw (key-in s (first_of s) (first-form s) x h, sym c.value_in.ensures ∙ c.in-Missing.is)

pub returns-in-Unfit : goal.returns-in-Unfit
unfolding on_value
returns-in-Unfit c = λ x h. let s = c.args.item.now in rw (key-in s (first_of s) (first-form s) x h, sym c.value_in.ensures ∙ c.in-Unfit.is)

pub returns-in-Stands : goal.returns-in-Stands
unfolding on_value
returns-in-Stands c = λ x h. let s = c.args.item.now in rw (key-in s (first_of s) (first-form s) x h, sym c.value_in.ensures ∙ c.in-Stands.is) c.first_of.ensures
