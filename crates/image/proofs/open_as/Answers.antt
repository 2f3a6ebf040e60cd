-- One version is read.
use Rattle.image.proofs.open_as.Goals as goal

pub returns : goal.returns
returns c = c.open_within.ensures
