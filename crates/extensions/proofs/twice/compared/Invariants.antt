use Prim.Native.Nat.{◌-◌}
use mathlib.Core.Path.{◌≡◌}
use mathlib.Core.Bool.{false}
use Rattle.extensions.specs.Strange.{row_oid}
use Rattle.extensions.proofs.Tables.{seen_in, Listed}
use Rattle.extensions.proofs.twice.compared.Given as goal

abbrev pub invariant-loop-i : goal.invariant-loop-i
invariant-loop-i l =
    (l.rest ≡ l.initial.rest) × (l.twice ≡ l.initial.twice) × (seen_in l.item l.table l.i (row_oid l.item l.own) ≡ false)

abbrev pub invariant-each : goal.invariant-each
invariant-each l = (l.twice ≡ false) × Listed l.item l.from l.end l.table l.count l.rest l.at

abbrev pub decreases-each : goal.decreases-each
decreases-each l = l.end - l.at
