-- The verdict table: n x n octets for n entries, row the signer, column the signed, each 0 or 1.
use Rattle.std.specs.Prelude.{ℕ, ◌+◌, ◌*◌, Bool, true, ◌&&◌, List, [], ◌∷◌, leb, eqb, length, get_or}

unfoldable pub verdict_in : ℕ → List ℕ → ℕ → ℕ → Bool
verdict_in n table u v = eqb (get_or table (u * n + v) 0) 1

unfoldable pub bits : List ℕ → Bool
bits [] = true
bits (x ∷ rest) = leb x 1 && bits rest

unfoldable pub table_good : ℕ → List ℕ → Bool
table_good n table = eqb (length table) (n * n) && bits table
