-- One case where there is no entry list, and one where there is.
use Rattle.crl.specs.Shape.{listing_of}
use Rattle.crl.proofs.shapes.listing_of.Goals as goal

pub returns-in-None : goal.returns-in-None
unfolding listing_of
returns-in-None c = rw c.in-None.is

pub returns-in-Some : goal.returns-in-Some
unfolding listing_of
returns-in-Some c = rw c.in-Some.is
