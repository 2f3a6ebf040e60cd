-- Octets and the numbers that they write.
use Rattle.std.specs.Prelude.{ℕ, zero, suc, ◌+◌, ◌*◌, ◌/◌, ◌%◌, ◌^◌, ◌<◌, cond, List, [], ◌∷◌, ltb, ℤ, pos, ◌-ℤ◌, length, get_or}

pub data Octets : List ℕ → Type 0 where
  no-octet : Octets []
  octet : {o : ℕ} {rest : List ℕ} → o < 256 → Octets rest → Octets (o ∷ rest)

-- the unsigned number, the first octet weighing most
unfoldable pub number : List ℕ → ℕ
number [] = 0
number (o ∷ rest) = o * 256 ^ length rest + number rest

-- the last k octets of a number
unfoldable pub big : ℕ → ℕ → List ℕ
big zero n = []
big (suc k) n = (n / 256 ^ k % 256) ∷ big k n

-- X.690 8.3: two's complement, the first bit being the sign
unfoldable pub twos : List ℕ → ℤ
twos c = cond (ltb (get_or c 0 0) 128) (pos (number c)) (pos (number c) -ℤ pos (256 ^ length c))
