-- The fast path tells it, or the time is read.
use Prim.Native.Nat.{◌+◌, ◌-◌, ◌≤◌}
use mathlib.Core.Path.{sym, ◌∙◌}
use native.Mathlib.Omega.{arith}
use lib.ListN.{length, drop, length-drop}
use lib.Seq.{length-take-le}
use Rattle.elements.specs.Elements.{contents_of}
use Rattle.times.specs.Times.{time_of}
use Rattle.crl.proofs.Digits.{utc-time}
use Rattle.crl.proofs.stamps.is_utc.Goals as goal

pub returns-then-usual_utc : goal.returns-then-usual_utc
unfolding time_of contents_of
returns-then-usual_utc c =
    let at = c.args.at in
    let s = c.args.item.now in
    let fits : at + 2 + 13 - (at + 2) ≤ length (drop (at + 2) s) = rw length-drop (omega (arith, c.requires)) in
    sym (utc-time _ (length-take-le _ _ fits ∙ omega arith) (c.usual_utc.ensures c.if-usual_utc.true))
