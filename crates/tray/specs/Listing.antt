-- Numbers stored one after the other into a list, from a place on, as many as it has room for.
use Rattle.std.specs.Prelude.{ℕ, ◌+◌, List, [], ◌∷◌, set}

unfoldable pub stored : ℕ → List ℕ → List ℕ → List ℕ
stored at list [] = list
stored at list (n ∷ rest) = stored (at + 1) (set list at n) rest
