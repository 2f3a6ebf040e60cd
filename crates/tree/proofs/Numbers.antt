-- Octets are the digits of a number to the base 256, so that a number and a width tell them and they tell the number.
use mathlib.Core.Path.{◌≡◌, refl, sym, ◌∙◌, ap, ap₂}
use mathlib.Core.List.{List, ◌∷◌}
use Prim.Native.Nat.{ℕ, zero, suc, ◌+◌, ◌*◌, ◌/◌, ◌%◌, ◌^◌, ◌<◌}
use native.Mathlib.Nat.{pow-succ', one-le-pow, mod-lt, mod-eq_of_lt, mod-one}
use native.Mathlib.Omega.{arith}
use lib.Arith.{digits_lt, digits_div, digits_mod, mod-mul}
use lib.ListN.{length, take, drop}
use Rattle.octets.specs.Octets.{Octets, no-octet, octet, number, big}

pub power-positive : (k : ℕ) → 0 < 256 ^ k
power-positive k = one-le-pow k 256 (omega arith)

pub number-below : {s : List ℕ} → Octets s → number s < 256 ^ length s
unfolding number
number-below no-octet = omega arith
number-below (octet {rest} h r) = rw pow-succ' (digits_lt h (number-below r))

-- octets of one length that write one number are the same
pub number-one : {a b : List ℕ} → Octets a → Octets b → length a ≡ length b → number a ≡ number b → a ≡ b
unfolding number
number-one no-octet no-octet l e = refl
number-one no-octet (octet h r) l e = absurd (omega arith)
number-one (octet h r) no-octet l e = absurd (omega arith)
number-one (octet {o = x} {rest = a} h r) (octet {o = y} {rest = b} g q) l e =
    let same : length b ≡ length a = omega arith in
    let m : ℕ = 256 ^ length a in
    let digits : x * m + number a ≡ y * m + number b = rw (same) at e in
    let below : number b < m = rw (same) at (number-below q) in
    let first : x ≡ y = sym (digits_div x (number-below r)) ∙ ap (λ v. v / m) digits ∙ digits_div y below in
    let last : number a ≡ number b = sym (digits_mod x (number-below r)) ∙ ap (λ v. v % m) digits ∙ digits_mod y below in
    ap₂ ◌∷◌ first (number-one r q (sym same) last)

pub length-big : (k n : ℕ) → length (big k n) ≡ k
unfolding big
length-big zero n = refl
length-big (suc k) n = ap suc (length-big k n)

pub octets-big : (k n : ℕ) → Octets (big k n)
unfolding big
octets-big zero n = no-octet
octets-big (suc k) n = octet (mod-lt _ (omega arith)) (octets-big k n)

pub number-big : (k n : ℕ) → number (big k n) ≡ n % 256 ^ k
unfolding number big
number-big zero n = sym (mod-one n)
number-big (suc k) n =
    rw (length-big k n, pow-succ', mod-mul n {m = 256} {c = 256 ^ k} (omega arith) (power-positive k), number-big k n)

pub big-number : (k : ℕ) {s : List ℕ} → Octets s → length s ≡ k → big k (number s) ≡ s
big-number k o l =
    number-one (octets-big k _) o (length-big k _ ∙ sym l)
    (number-big k _ ∙ mod-eq_of_lt (rw (← l) (number-below o)))

pub octets-take : (k : ℕ) {s : List ℕ} → Octets s → Octets (take k s)
octets-take zero o = no-octet
octets-take (suc k) no-octet = no-octet
octets-take (suc k) (octet h o) = octet h (octets-take k o)

pub octets-drop : (k : ℕ) {s : List ℕ} → Octets s → Octets (drop k s)
octets-drop zero o = o
octets-drop (suc k) no-octet = no-octet
octets-drop (suc k) (octet h o) = octets-drop k o
