-- Both versions are read.
use Rattle.image.proofs.open.Goals as goal

pub returns : goal.returns
returns c = c.open_within.ensures
