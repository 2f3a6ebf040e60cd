-- Four octets, the first weighing most.
use native.Mathlib.Omega.{arith}
use Rattle.tray.proofs.Fields.{field-four}
use Rattle.tray.proofs.four.Goals as goal

pub returns : goal.returns
returns c = omega (arith, field-four c.args.log.now c.args.at c.requires, c.from_be_bytes.ensures)
