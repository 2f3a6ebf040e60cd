use mathlib.Core.Bool.{◌&&◌}
use mathlib.Core.Path.{◌≡◌}
use lib.Dec.{leb}
use lib.ListN.{drop}
use Rattle.usable.specs.Table.{bits}
use Rattle.usable.proofs.table.all_bits.Given as goal

abbrev pub invariant-loop-octet : goal.invariant-loop-octet
invariant-loop-octet l = (leb l.most 1 && bits (drop l.octet-index l.table)) ≡ bits l.table
