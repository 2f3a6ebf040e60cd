-- The least octets for a value leave its magnitude between two powers, so that the value tells their number and then the octets.
use mathlib.Core.Path.{◌≡◌, refl, ap}
use mathlib.Core.Bool.{true, false≢true}
use mathlib.Core.List.{List, [], ◌∷◌}
use Prim.Native.Nat.{ℕ, suc, ◌+◌, ◌-◌, ◌*◌, ◌^◌, ◌≤◌, ◌<◌}
use native.Mathlib.Nat.{pow-succ', pow-le-pow_right, mul-le-mul_right, mul_left_comm}
use native.Mathlib.Omega.{arith}
use borrow.Author.Tests.{lt-ltb, eq-eqb, ne_eqb, ltb-true, ltb-false, leb-true, leb-false, eqb-true, eqb-false}
use lib.Dec.{ltb, leb, eqb}
use lib.IntN.{ℤ, pos, negsuc, ◌-ℤ◌}
use lib.ListN.{length, get_or}
use Rattle.octets.specs.Octets.{Octets, octet, number, twos}
use Rattle.der.specs.Contents.{integer_good}
use Rattle.tree.proofs.Cases.{by-test}
use Rattle.tree.proofs.Numbers.{number-below, number-one}

-- n octets hold the magnitude m with its sign, and fewer do not
record Magnitude (n m : ℕ) : Type 0 where
  some : 1 ≤ n
  below : m < 128 * 256 ^ (n - 1)
  needed : 2 ≤ n → 128 * 256 ^ (n - 2) ≤ m

magnitude-least : (n k m : ℕ) → Magnitude n m → Magnitude k m → n ≤ k
magnitude-least n k m a b =
    by-test (leb n k) (λ t. leb-true n k t) λ f.
    let less : k < n = leb-false n k f in
    let powers : 256 ^ (k - 1) ≤ 256 ^ (n - 2) = pow-le-pow_right (omega arith) (omega (arith, b.some)) in
    absurd (omega (arith, a.needed (omega (arith, b.some)), b.below))

magnitude-one : (n k m : ℕ) → Magnitude n m → Magnitude k m → n ≡ k
magnitude-one n k m a b = omega (arith, magnitude-least n k m a b, magnitude-least k n m b a)

-- a value as the octets write it
data Signed (c : List ℕ) (v : ℤ) : Type 0 where
  plus : (m : ℕ) → v ≡ pos m → number c ≡ m → Magnitude (length c) m → Signed c v
  minus : (m : ℕ) → v ≡ negsuc m → number c + suc m ≡ 256 ^ length c → Magnitude (length c) m → Signed c v

take-away : (a m p : ℕ) → a + suc m ≡ p → pos a -ℤ pos p ≡ negsuc m
take-away a m p e =
    let less : a < suc (a + m) = omega arith in
    let left : suc (a + m) - suc a ≡ m = omega arith in
    let whole : p ≡ suc (a + m) = omega arith in
    rw (whole) (simp (lt-ltb _ _ less, left))

minimal : (x y : ℕ) (t : List ℕ) → integer_good (x ∷ y ∷ t) ≡ true → (x ≡ 0 → 128 ≤ y) × (x ≡ 255 → y < 128)
unfolding integer_good
minimal x y t good =
    let many : suc (suc (length t)) ≡ 0 → ⊥ = omega arith in
    let more : suc (suc (length t)) ≡ 1 → ⊥ = omega arith in (
      λ e. leb-true _ _ (simp (ne_eqb _ _ many, ne_eqb _ _ more, eq-eqb x 0 e) at good),
      λ e. let some : x ≡ 0 → ⊥ = omega arith in
          ltb-true _ _ (simp (ne_eqb _ _ many, ne_eqb _ _ more, ne_eqb x 0 some, eq-eqb x 255 e) at good),
    )

signed_by :
    (c : List ℕ) → (get_or c 0 0 < 128 → Magnitude (length c) (number c))
    → (128 ≤ get_or c 0 0 → (m : ℕ) × (number c + suc m ≡ 256 ^ length c) × Magnitude (length c) m) → Signed c (twos c)
unfolding twos
signed_by c small large =
    by-test (ltb (get_or c 0 0) 128) (λ t. plus (number c) (rw t) refl (small (ltb-true _ _ t)))
    λ f. let (m, sum, held) = large (ltb-false _ _ f) in minus m (rw f (take-away (number c) m (256 ^ length c) sum)) sum held

magnitude-of : (n m : ℕ) → m < 32768 * 256 ^ n → 128 * 256 ^ n ≤ m → Magnitude (suc (suc n)) m
magnitude-of n m below needed =
    let one : suc (suc n) - 1 ≡ suc n = omega arith in
    let two : suc (suc n) - 2 ≡ n = omega arith in
    record { some = omega arith; below = rw (one, pow-succ') (omega arith); needed = λ h. rw two needed }

signed : (c : List ℕ) → Octets c → integer_good c ≡ true → Signed c (twos c)
unfolding integer_good number
signed [] o good = absurd (false≢true good)
signed (x ∷ []) (octet b o) good =
    signed_by (x ∷ []) (λ small. record { some = omega arith; below = omega arith; needed = omega arith })
    λ large. (255 - x, omega arith, record { some = omega arith; below = omega arith; needed = omega arith })
signed (x ∷ y ∷ t) (octet b (octet b' o)) good =
    let p : ℕ = 256 ^ length t in
    let r : number t < p = number-below o in
    let whole : 256 ^ suc (suc (length t)) ≡ 65536 * p = omega (arith, pow-succ' 256 (suc (length t)), pow-succ' 256 (length t)) in
    let value : number (x ∷ y ∷ t) ≡ 256 * (x * p) + y * p + number t = rw (pow-succ' 256 (length t), mul_left_comm x 256 p) (omega arith) in
    let most : x * p ≤ 255 * p = mul-le-mul_right p (omega arith) in
    let most' : y * p ≤ 255 * p = mul-le-mul_right p (omega arith) in
    signed_by (x ∷ y ∷ t)
    (λ small.
    let less : x * p ≤ 127 * p = mul-le-mul_right p (omega arith) in
    let needed : 128 * p ≤ number (x ∷ y ∷ t) =
    by-test (eqb x 0)
    (λ z. let high : 128 * p ≤ y * p = mul-le-mul_right p ((minimal x y t good).0 (eqb-true _ _ z)) in omega arith)
    λ z. let high : 1 * p ≤ x * p = mul-le-mul_right p (omega (arith, eqb-false x 0 z)) in omega arith in
    magnitude-of (length t) _ (omega arith) needed)
    λ large.
    let more : 128 * p ≤ x * p = mul-le-mul_right p large in
    let needed : number (x ∷ y ∷ t) + suc (128 * p) ≤ 65536 * p =
    by-test (eqb x 255)
    (λ z. let low : y * p ≤ 127 * p = mul-le-mul_right p (omega (arith, (minimal x y t good).1 (eqb-true _ _ z))) in omega arith)
    λ z. let low : x * p ≤ 254 * p = mul-le-mul_right p (omega (arith, eqb-false x 255 z)) in omega arith in
    (65536 * p - suc (number (x ∷ y ∷ t)), rw whole (omega arith), magnitude-of (length t) _ (omega arith) (omega arith))

pub twos-same : (a b : List ℕ) → Octets a → Octets b → integer_good a ≡ true → integer_good b ≡ true → twos a ≡ twos b → a ≡ b
twos-same a b oa ob ga gb e = go (signed a oa ga) (signed b ob gb)
  where
    go : Signed a (twos a) → Signed b (twos b) → a ≡ b
    go (plus m p q r) (plus k u v w) =
        let same : m ≡ k = cc in
        number-one oa ob (magnitude-one _ _ m r (rw same w)) (omega arith)
    go (plus m p q r) (minus k u v w) = let no : ◌≡◌ {A = ℕ} 0 1 = cc in absurd (omega arith)
    go (minus m p q r) (plus k u v w) = let no : ◌≡◌ {A = ℕ} 0 1 = cc in absurd (omega arith)
    go (minus m p q r) (minus k u v w) =
        let same : m ≡ k = cc in
        let lengths : length a ≡ length b = magnitude-one _ _ m r (rw same w) in
        number-one oa ob lengths (omega (arith, ap (λ (n : ℕ). 256 ^ n) lengths))
