-- The whole element is the part from its first octet to its end.
use Rattle.elements.specs.Elements.{whole_of}
use Rattle.elements.proofs.elements.whole.Goals as goal

pub returns : goal.returns
unfolding whole_of
returns c = rw (← c.between.ensures) c.part.ensures
