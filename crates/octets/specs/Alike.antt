-- Octet by octet: equal strings of octets.
use Rattle.std.specs.Prelude.{ℕ, Bool, true, false, ◌&&◌, List, [], ◌∷◌, eqb}

unfoldable pub alike : List ℕ → List ℕ → Bool
alike [] [] = true
alike [] (b ∷ rest) = false
alike (a ∷ rest) [] = false
alike (a ∷ rest) (b ∷ other) = eqb a b && alike rest other
