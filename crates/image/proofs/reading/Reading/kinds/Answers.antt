use mathlib.Core.Path.{ap, ◌∙◌}
use Rattle.image.specs.declared.IndexEntry.{IndexEntry}
use Rattle.image.proofs.Readings.{entry_told}
use Rattle.image.proofs.reading.Reading.kinds.Goals as goal

pub returns : goal.returns
returns c =
    λ place h. c.kinds_in.ensures place h
    ∙ ap (λ (e : IndexEntry). e.kind) (entry_told _ _ c.self.view_is c.self.invariant place)
