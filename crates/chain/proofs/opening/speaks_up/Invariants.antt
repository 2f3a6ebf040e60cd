use Prim.Native.Nat.{◌*◌, ◌≤◌}
use mathlib.Core.Path.{◌≡◌}
use lib.ListN.{length, take, drop}
use Rattle.chain.proofs.SpeakingUp.{Heard}
use Rattle.chain.proofs.opening.speaks_up.Given as goal

abbrev pub invariant-loop-octet : goal.invariant-loop-octet
invariant-loop-octet l =
    (l.line ≡ take l.places (drop (l.place * l.places) l.table)) × (length l.line ≤ 96) × Heard l.line l.octet-index l.speaks
