-- A table's octets tested one after the other.
use Prim.Native.Nat.{ℕ, suc, ◌+◌, ◌<◌}
use mathlib.Core.Path.{◌≡◌}
use mathlib.Core.Bool.{◌&&◌, and_assoc}
use mathlib.Core.List.{List}
use native.Mathlib.Numerals.{add-one}
use native.Mathlib.Omega.{arith}
use lib.Dec.{leb}
use lib.ListN.{length, get_or, drop}
use lib.Seq.{drop-cons}
use Rattle.std.specs.Ordering.{ord_max, nat_cmp}
use Rattle.std.proofs.lemmas.Bool.Decides.{nat_tests}
use Rattle.usable.specs.Table.{bits}

-- one octet more, the largest so far or not
pub bits-more :
    (most larger : ℕ) (s : List ℕ) (i : ℕ) → i < length s → leb larger 1 ≡ (leb most 1 && leb (get_or s i 0) 1)
    → (leb larger 1 && bits (drop (i + 1) s)) ≡ (leb most 1 && bits (drop i s))
unfolding bits
bits-more most larger s i h e = rw (e, add-one, drop-cons s i 0) (and_assoc (leb most 1) (leb (get_or s i 0) 1) (bits (drop (suc i) s)))

-- the larger of two octets is a bit where both are
pub larger : (most octet : ℕ) → leb (ord_max nat_cmp most octet) 1 ≡ (leb most 1 && leb octet 1)
larger most octet = grind (arith, nat_tests)
