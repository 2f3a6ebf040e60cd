-- Four octets are two and two, the first two weighing most.
use native.Mathlib.Omega.{arith}
use Rattle.image.proofs.Fields.{field-four}
use Rattle.image.proofs.four.Goals as goal

pub returns : goal.returns
returns c = omega (arith, field-four c.args.image.now c.args.at c.requires)
