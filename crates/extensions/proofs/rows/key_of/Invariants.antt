use mathlib.Core.Path.{◌≡◌}
use lib.ListN.{drop}
use Rattle.extensions.specs.Strange.{key_from}
use Rattle.extensions.proofs.rows.key_of.Given as goal

abbrev pub invariant-loop-octet : goal.invariant-loop-octet
invariant-loop-octet l = key_from l.key (drop l.octet-index l.octets) ≡ key_from 0 l.octets
