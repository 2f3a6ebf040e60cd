use Prim.Native.Nat.{suc, ◌^◌, ◌≤◌}
use mathlib.Core.Path.{◌≡◌}
use lib.ListN.{take}
use Rattle.octets.specs.Octets.{number}
use Rattle.der.proofs.numbers.signed.Given as goal

abbrev pub invariant-loop-octet : goal.invariant-loop-octet
invariant-loop-octet l =
    (l.value ≡ number (take l.octet-index l.c)) × (suc l.most ≡ 256 ^ l.octet-index) × (l.value ≤ l.most)
