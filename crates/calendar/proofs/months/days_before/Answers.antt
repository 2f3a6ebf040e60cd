-- The code reads the entry of the month, and each entry is the days of the years and months before it.
use mathlib.Core.Path.{◌≡◌, ◌∙◌}
use Prim.Native.Nat.{◌+◌, ◌-◌, ◌*◌}
use native.Mathlib.Omega.{arith}
use lib.ListN.{get_or}
use Rattle.calendar.specs.declared.months.TheConstants.{DAYS_BEFORE}
use Rattle.calendar.proofs.Table.{carried}
use Rattle.calendar.proofs.months.days_before.Goals as goal

pub returns : goal.returns
returns c =
    let y = c.args.year in
    let m = c.args.month in
    let read : c.from.result ≡ get_or DAYS_BEFORE ((y - 1950) * 12 + m - 1) 0 = c.from.ensures in
    let place : (y - 1950) * 12 + m - 1 ≡ (y - 1950) * 12 + (m - 1) = omega (arith, c.requires) in
    let year : 1950 + (y - 1950) ≡ y = omega (arith, c.requires) in
    read ∙ rw place (rw year at (carried (y - 1950) (m - 1) (omega (arith, c.requires)) (omega (arith, c.requires))))
