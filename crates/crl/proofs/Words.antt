-- Numbers made of octets, the first lowest: what the bits of the whole tell of each octet.
use Prim.Native.Nat.{ℕ, ◌+◌, ◌*◌, ◌-◌, ◌/◌, ◌%◌, ◌<◌, ◌≤◌}
use mathlib.Core.Bool.{Bool, true, ◌&&◌, and-eq-true_iff}
use mathlib.Core.List.{List, [], ◌∷◌}
use mathlib.Core.Path.{◌≡◌, sym, ◌∙◌}
use native.Mathlib.Nat.{mod-eq_of_lt}
use native.Mathlib.Omega.{arith}
use borrow.Author.Tests.{leb-true}
use lib.Dec.{leb}
use lib.Bits.{bit_and, and_block, and_high, and_le_r}

unfoldable pub word : List ℕ → ℕ
word [] = 0
word (o ∷ os) = word os * 256 + o

abbrev pub Each : (ℕ → Type 0) → List ℕ → Type 0
Each P [] = Unit
Each P (o ∷ os) = P o × Each P os

-- each is an octet, found by computing
abbrev pub small : List ℕ → Bool
small [] = true
small (o ∷ os) = leb o 255 && small os

-- octets of two numbers, anded one by one
abbrev pub Ands : List ℕ → List ℕ → List ℕ → Type 0
Ands [] bs es = Unit
Ands (o ∷ os) [] es = Unit
Ands (o ∷ os) (b ∷ bs) [] = Unit
Ands (o ∷ os) (b ∷ bs) (e ∷ es) = (bit_and o b ≡ e) × Ands os bs es

pub apart : (x y e t : ℕ) → y < 256 → t < 256 → x * 256 + y ≡ e * 256 + t → (y ≡ t) × (x ≡ e)
apart x y e t few less is = (omega arith, omega arith)

and-apart : (a b e r s t : ℕ) → r < 256 → s < 256 → t < 256 → bit_and (a * 256 + r) (b * 256 + s) ≡ e * 256 + t → (bit_and r s ≡ t) × (bit_and a b ≡ e)
and-apart a b e r s t hr hs ht is =
    let under : bit_and r s ≤ s = and_le_r r s in
    apart (bit_and a b) (bit_and r s) e t (omega (arith, under, hs)) ht (sym (and_block 8 a b r s hr hs) ∙ is)

pub ands : (os bs es : List ℕ) → Each (λ o. o < 256) os → small bs ≡ true → small es ≡ true → bit_and (word os) (word bs) ≡ word es → Ands os bs es
unfolding word
ands [] bs es ho hb he is = tt
ands (o ∷ os) [] es ho hb he is = tt
ands (o ∷ os) (b ∷ bs) [] ho hb he is = tt
ands (o ∷ os) (b ∷ bs) (e ∷ es) ho hb he is =
    let (b1, b2) = (and-eq-true_iff (leb b 255) _).0 hb in
    let (e1, e2) = (and-eq-true_iff (leb e 255) _).0 he in
    let (this, rest) = and-apart (word os) (word bs) (word es) o b e ho.0 (omega (arith, leb-true b 255 b1)) (omega (arith, leb-true e 255 e1)) is in
    (this, ands os bs es ho.1 b2 e2 rest)

-- an upper half of 3
pub upper : (o : ℕ) → o < 256 → bit_and o 240 ≡ 48 → (48 ≤ o) × (o ≤ 63)
upper o h is =
    let whole : o / 16 % 16 ≡ o / 16 = mod-eq_of_lt (omega arith) in
    let half : o / 16 * 16 ≡ 48 = rw whole at (sym (and_high o 4 4) ∙ is) in
    (omega (arith, half), omega (arith, half))

-- a highest bit of 0
pub below : (o : ℕ) → o < 256 → bit_and o 128 ≡ 0 → o < 128
below o h is =
    let whole : o / 128 % 2 ≡ o / 128 = mod-eq_of_lt (omega arith) in
    let bit : o / 128 * 128 ≡ 0 = rw whole at (sym (and_high o 1 7) ∙ is) in
    omega (arith, bit)

-- octets added to octets
abbrev pub plus : List ℕ → List ℕ → List ℕ
plus [] ks = ks
plus (o ∷ os) [] = o ∷ os
plus (o ∷ os) (k ∷ ks) = (o + k) ∷ plus os ks

pub word-plus : (os ks : List ℕ) → word (plus os ks) ≡ word os + word ks
unfolding word
word-plus [] ks = omega arith
word-plus (o ∷ os) [] = omega arith
word-plus (o ∷ os) (k ∷ ks) = let rest : word (plus os ks) ≡ word os + word ks = word-plus os ks in omega arith

-- the same octet at each place
abbrev pub each : ℕ → List ℕ → ℕ
each k [] = 0
each k (o ∷ os) = each k os * 256 + k

pub word-most : (k : ℕ) (os : List ℕ) → Each (λ o. o ≤ k) os → word os ≤ each k os
unfolding word
word-most k [] h = omega arith
word-most k (o ∷ os) h = let rest : word os ≤ each k os = word-most k os h.1 in omega (arith, h.0, rest)

abbrev pub take_off : ℕ → List ℕ → List ℕ
take_off k [] = []
take_off k (o ∷ os) = (o - k) ∷ take_off k os

pub word-off : (k : ℕ) (os : List ℕ) → Each (λ o. k ≤ o) os → word os ≡ word (take_off k os) + each k os
unfolding word
word-off k [] h = omega arith
word-off k (o ∷ os) h = let rest : word os ≡ word (take_off k os) + each k os = word-off k os h.1 in omega (arith, h.0, rest)

-- each with the next as tens and ones
abbrev pub pairs_of : ℕ → List ℕ → List ℕ
pairs_of t [] = (t * 10) ∷ []
pairs_of t (u ∷ us) = (t * 10 + u) ∷ pairs_of u us

pub word-pairs : (t : ℕ) (us : List ℕ) → word (t ∷ us) * 10 + word us ≡ word (pairs_of t us)
unfolding word
word-pairs t [] = omega arith
word-pairs t (u ∷ us) = let rest : word (u ∷ us) * 10 + word us ≡ word (pairs_of u us) = word-pairs u us in omega (arith, rest)

pub word-tail : (t : ℕ) (us : List ℕ) → t < 256 → word (t ∷ us) / 256 ≡ word us
unfolding word
word-tail t us h = omega arith

-- the third octet, the fifth and the seventh
pub word-third : (a b o : ℕ) (os : List ℕ) → a < 256 → b < 256 → o < 256 → word (a ∷ b ∷ o ∷ os) / 0x10000 % 256 ≡ o
unfolding word
word-third a b o os ha hb ho = omega arith

pub word-fifth : (a b c d o : ℕ) (os : List ℕ) → a < 256 → b < 256 → c < 256 → d < 256 → o < 256 → word (a ∷ b ∷ c ∷ d ∷ o ∷ os) / 0x100000000 % 256 ≡ o
unfolding word
word-fifth a b c d o os ha hb hc hd ho = omega arith

pub word-seventh : (a b c d e f o : ℕ) (os : List ℕ) → a < 256 → b < 256 → c < 256 → d < 256 → e < 256 → f < 256 → o < 256
    → word (a ∷ b ∷ c ∷ d ∷ e ∷ f ∷ o ∷ os) / 0x1000000000000 % 256 ≡ o
unfolding word
word-seventh a b c d e f o os ha hb hc hd he hf ho = omega arith
