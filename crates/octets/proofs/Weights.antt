-- Numbers octet by octet: an octet that follows adds itself to 256 times the number before it.
use mathlib.Core.Path.{◌≡◌, ap, sym, ◌∙◌}
use mathlib.Core.List.{List, [], ◌∷◌, ◌++◌}
use Prim.Native.Nat.{ℕ, suc, ◌+◌, ◌*◌, ◌^◌, ◌<◌, ◌≤◌}
use native.Mathlib.Nat.{mul_assoc, mul-le-mul_right, pow-suc}
use native.Mathlib.Omega.{arith}
use lib.ListN.{length, get_or, take, length-append}
use lib.Seq.{take-suc}
use Rattle.octets.specs.Octets.{number}

pub number_more : (c : List ℕ) (o : ℕ) → number (c ++ (o ∷ [])) ≡ number c * 256 + o
unfolding number
number_more [] o = omega arith
number_more (x ∷ xs) o =
    let weight : length (xs ++ (o ∷ [])) ≡ suc (length xs) = simp length-append (omega arith) in
    let most : x * 256 ^ suc (length xs) ≡ x * 256 ^ length xs * 256 = rw pow-suc (sym (mul_assoc _ _ _)) in
    rw weight (omega (arith, number_more xs o, most))

pub number-next : (c : List ℕ) (i : ℕ) → i < length c → number (take (suc i) c) ≡ number (take i c) * 256 + get_or c i 0
number-next c i h = ap number (take-suc c i 0 h) ∙ number_more (take i c) (get_or c i 0)

-- octets write a number below 256 to the power of their count, and one in its lower half if the first is below 128
pub number-below : (c : List ℕ) → ((k : ℕ) → get_or c k 0 < 256) → number c < 256 ^ length c
unfolding number
number-below [] octets = omega arith
number-below (x ∷ xs) octets =
    let most : x ≤ 255 = omega (arith, octets 0) in
    omega (
      arith,
      mul-le-mul_right (256 ^ length xs) most,
      number-below xs (λ k. octets (suc k)),
      pow-suc 256 (length xs),
    )

pub lower-half : (c : List ℕ) → ((k : ℕ) → get_or c k 0 < 256) → get_or c 0 0 < 128 → number c * 2 < 256 ^ length c
unfolding number
lower-half [] octets h = omega arith
lower-half (x ∷ xs) octets h =
    let most : x ≤ 127 = omega arith in
    omega (
      arith,
      mul-le-mul_right (256 ^ length xs) most,
      number-below xs (λ k. octets (suc k)),
      pow-suc 256 (length xs),
    )

pub upper-half : (c : List ℕ) → 128 ≤ get_or c 0 0 → 256 ^ length c ≤ number c * 2
unfolding number
upper-half [] h = omega arith
upper-half (x ∷ xs) h =
    let least : 128 ≤ x = h in
    omega (arith, mul-le-mul_right (256 ^ length xs) least, pow-suc 256 (length xs))
