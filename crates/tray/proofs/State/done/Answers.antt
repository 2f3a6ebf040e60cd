-- A burnt unit has a mark.
use Rattle.std.specs.Prelude.{Some}
use mathlib.Core.Path.{◌≡◌, ap, ◌∙◌}
use Rattle.tray.specs.declared.Action.TheVariants.{Burn}
use native.Mathlib.Omega.{arith}
use Rattle.tray.proofs.Told.{good-burn}
use Rattle.tray.proofs.State.done.Goals as goal

pub bounds-self-from : goal.bounds-self-from
bounds-self-from c =
    let arm = c.in-Some-Burn in
    let asked : c.args.entry.action ≡ Some arm.field-0 = arm.is in
    let this : arm.field-0 ≡ Burn = rw asked at arm.field-0-is in
    let burn : c.args.entry.action ≡ Some Burn = asked ∙ ap Some this in
    omega (arith, (good-burn _ _ c.requires burn).high, c.from.ensures)
