-- Two octets, the first weighing most.
use native.Mathlib.Omega.{arith}
use Rattle.tray.proofs.Fields.{field-two}
use Rattle.tray.proofs.two.Goals as goal

pub returns : goal.returns
returns c = omega (arith, field-two c.args.log.now c.args.at c.requires, c.from_be_bytes.ensures)
