use mathlib.Core.Path.{refl, sym, ◌∙◌}
use Rattle.image.proofs.Readings.{reads, trailer_told}
use Rattle.image.proofs.reading.read_within.Goals as goal

pub invariant_of-result : goal.invariant_of-result
invariant_of-result c = reads c.args.least c.args.most c.args.image.now (sym c.open_within.ensures ∙ c.in_ok-entries.was) (λ i. (c.type_inv.image i).fits)

pub returns-clause-ok : goal.returns-clause-ok
returns-clause-ok c = (refl, trailer_told c.args.least c.args.most c.args.image.now (sym c.open_within.ensures ∙ c.in_ok-entries.was))
