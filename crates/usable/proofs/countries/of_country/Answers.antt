-- The item's letters are compared.
use mathlib.Core.Path.{ap, ◌∙◌}
use Rattle.usable.specs.Country.{is_of, home_of}
use Rattle.usable.proofs.countries.of_country.Goals as goal

pub returns : goal.returns
unfolding home_of
returns c flags a b = c.is_of.ensures ∙ ap (is_of _ _) (c.country_of.ensures flags a b)
