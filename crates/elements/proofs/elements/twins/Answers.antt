-- Both elements are compared whole.
use Rattle.elements.proofs.elements.twins.Goals as goal

pub returns : goal.returns
returns c = rw (← c.whole.ensures, ← c.whole-2.ensures) c.same.ensures
