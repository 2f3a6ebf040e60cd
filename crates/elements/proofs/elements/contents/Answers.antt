-- The contents are the part from their first octet to the end.
use Rattle.elements.specs.Elements.{contents_of}
use Rattle.elements.proofs.elements.contents.Goals as goal

pub returns : goal.returns
unfolding contents_of
returns c = rw (← c.between.ensures) c.part.ensures
