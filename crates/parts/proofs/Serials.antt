-- A serial is an INTEGER in DER with its first bit 0 that is not 00: so its first octet is not zero, or its second has its first bit
-- set, and the number that they write is above zero.
use Prim.Native.Nat.{ℕ, zero, suc, ◌*◌, ◌^◌, ◌≤◌}
use mathlib.Core.Path.{◌≡◌}
use mathlib.Core.Bool.{true, false, true≢false, false≢true, ◌&&◌, not}
use mathlib.Core.List.{List, [], ◌∷◌}
use native.Mathlib.Nat.{mul-le-mul_right}
use native.Mathlib.Omega.{arith}
use borrow.Author.Tests.{ne_eqb, leb-true, not-true}
use lib.Dec.{leb, ltb}
use lib.ListN.{length, get_or}
use Rattle.der.specs.Contents.{integer_good, contents_good}
use Rattle.der.specs.Forms.{paper}
use Rattle.octets.specs.Octets.{number, twos}
use Rattle.tree.specs.Tree.{leaf, Sound, sound-leaf}
use Rattle.tree.proofs.Numbers.{power-positive}
use Rattle.octets.specs.Alike.{alike}
use Rattle.certificate.specs.Rules.{serial_good}
use Rattle.parts.specs.Serial.{Positive}
use Rattle.parts.proofs.Inverse.{both}

number-some : (x : ℕ) (rest : List ℕ) → 1 ≤ x → 1 ≤ number (x ∷ rest)
unfolding number
number-some x rest h =
    let most : 1 * 256 ^ length rest ≤ x * 256 ^ length rest = mul-le-mul_right (256 ^ length rest) h in
    omega (arith, power-positive (length rest))

number-later : (x : ℕ) (rest : List ℕ) → 1 ≤ number rest → 1 ≤ number (x ∷ rest)
unfolding number
number-later x rest h = omega arith

second : (y : ℕ) (rest : List ℕ) → integer_good (0 ∷ y ∷ rest) ≡ true → 128 ≤ y
unfolding integer_good
second y rest good =
    let many : suc (suc (length rest)) ≡ 0 → ⊥ = omega arith in
    let two : suc (suc (length rest)) ≡ 1 → ⊥ = omega arith in
    leb-true _ _ (simp (ne_eqb _ _ many, ne_eqb _ _ two) at good)

number-above : (c : List ℕ) → integer_good c ≡ true → alike c (0 ∷ []) ≡ false → (1 ≤ length c) × (1 ≤ number c)
unfolding integer_good alike
number-above [] good other = absurd (false≢true good)
number-above (suc x ∷ rest) good other = (omega arith, number-some (suc x) rest (omega arith))
number-above (zero ∷ []) good other = absurd (true≢false other)
number-above (zero ∷ y ∷ rest) good other = (omega arith, number-later 0 (y ∷ rest) (number-some y rest (omega (arith, second y rest good))))

integer-contents : (c : List ℕ) → Sound paper (leaf 0x02 c) → integer_good c ≡ true
unfolding contents_good
integer-contents c (sound-leaf small good flat octets fits contents) = contents

pub serial-positive : (c : List ℕ) → Sound paper (leaf 0x02 c) → serial_good c ≡ true → Positive c
unfolding serial_good twos
serial-positive c sound good =
    let a = both (leb (length c) 20) (ltb (get_or c 0 0) 128 && not (alike c (0 ∷ []))) good in
    let b = both (ltb (get_or c 0 0) 128) (not (alike c (0 ∷ []))) a.1 in
    let n = number-above c (integer-contents c sound) (not-true _ b.1) in
    record {
      some = n.0;
      short = leb-true _ _ a.0;
      value = number c;
      writes = rw b.0;
      above = n.1;
    }
