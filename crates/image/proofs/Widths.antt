-- What is known of an index entry's octets, whatever the version: all that any other proof uses of `width`.
use Prim.Native.Nat.{ℕ, ◌+◌, ◌*◌, ◌≤◌, ◌<◌}
use mathlib.Core.Path.{◌≡◌, refl}
use mathlib.Core.Bool.{Bool, true, false, cond}
use mathlib.Core.List.{[], ◌∷◌}
use native.Mathlib.Nat.{mul-le-mul_left, mul-le-mul_right}
use native.Mathlib.Omega.{arith}
use borrow.Author.Tests.{eq-eqb}
use lib.Dec.{eqb}
use lib.ListN.{length}
use Rattle.octets.specs.Octets.{big}
use Rattle.image.specs.Items.{letters_bytes, entry_bytes}
use Rattle.image.specs.Index.{width}

-- every entry begins with its eight octets, and none has more than twelve
between : (b : Bool) → (8 ≤ cond b 12 8) × (cond b 12 8 ≤ 12)
between true = (omega arith, omega arith)
between false = (omega arith, omega arith)

pub width-least : (version : ℕ) → 8 ≤ width version
unfolding width
width-least version = (between (eqb version 2)).0

pub width-most : (version : ℕ) → width version ≤ 12
unfolding width
width-most version = (between (eqb version 2)).1

-- an entry of version 2 has room for its letters and the zeros behind them
pub width-lettered : {version : ℕ} → version ≡ 2 → width version ≡ 12
unfolding width
width-lettered {version} two = rw (eq-eqb version 2 two)

-- the octets of some entries
pub widths : (version n : ℕ) {wide : ℕ} → wide ≡ width version → (8 * n ≤ wide * n) × (wide * n ≤ 12 * n)
widths version n e =
    (mul-le-mul_right n (omega (arith, e, width-least version)), mul-le-mul_right n (omega (arith, e, width-most version)))

-- the octets of an index
pub index-small : (version n : ℕ) {wide : ℕ} → wide ≡ width version → n ≤ 96 → wide * n ≤ 65536
index-small version n e few = omega (arith, (widths version n e).1)

-- an entry ends where the next begins, or the index does
pub width-within : (wide i n : ℕ) → i < n → wide * i + wide ≤ wide * n
width-within wide i n h = omega (arith, mul-le-mul_left wide h)

behind : (b : Bool) (first second : ℕ) → 8 + length (cond b (first ∷ second ∷ 0 ∷ 0 ∷ []) []) ≡ cond b 12 8
behind true first second = refl
behind false first second = refl

pub letters-length : (version first second : ℕ) → 8 + length (letters_bytes version first second) ≡ width version
unfolding width letters_bytes
letters-length version first second = behind (eqb version 2) first second

pub entry_length :
    (version kind flags size offset first second : ℕ) → length (entry_bytes version kind flags size offset first second) ≡ width version
unfolding entry_bytes big
entry_length version kind flags size offset first second = omega (arith, letters-length version first second)
