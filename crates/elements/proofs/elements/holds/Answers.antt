-- The contents are compared as they stand.
use Rattle.elements.proofs.elements.holds.Goals as goal

pub returns : goal.returns
returns c = rw (← c.contents.ensures) c.same.ensures
