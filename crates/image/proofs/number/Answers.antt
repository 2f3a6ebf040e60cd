-- The part has as many octets as are there, four at most.
use mathlib.Core.Path.{ap, ◌∙◌}
use native.Mathlib.Omega.{arith}
use lib.ListN.{length-take}
use Rattle.octets.specs.Octets.{number}
use Rattle.image.specs.Index.{field}
use Rattle.image.proofs.number.Goals as goal

pub number_of-requires : goal.number_of-requires
number_of-requires c = rw c.part.ensures (simp length-take (omega arith))

pub returns : goal.returns
unfolding field
returns c = (c.number_of.ensures.0 ∙ ap number c.part.ensures, c.number_of.ensures.1)
