use mathlib.Core.Path.{◌∙◌}
use Rattle.image.proofs.Fields.{entry-small}
use Rattle.image.proofs.Readings.{entry_told}
use Rattle.image.proofs.reading.Reading.entry.Goals as goal

pub returns : goal.returns
returns c =
    record {
      own = c.entry_of.ensures ∙ entry_told _ _ c.self.view_is c.self.invariant c.args.place;
      octets = rw c.entry_of.ensures (entry-small _ _ _ c.self.invariant.octets);
    }
