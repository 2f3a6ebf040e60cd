-- The index that the columns of kinds, flags, lengths and letters tell.
use Rattle.std.specs.Prelude.{ℕ, ◌+◌, List, [], ◌∷◌, ◌++◌, get_or, drop}
use Rattle.image.specs.Items.{entry_bytes}

-- the entries, the first item standing at `offset`
unfoldable pub rows_bytes : ℕ → ℕ → List ℕ → List ℕ → List ℕ → List ℕ → List ℕ
rows_bytes version offset [] flags lengths letters = []
rows_bytes version offset (kind ∷ rest) flags lengths letters =
    entry_bytes version kind (get_or flags 0 0) (get_or lengths 0 0) offset (get_or letters 0 0) (get_or letters 1 0)
    ++ rows_bytes version (offset + get_or lengths 0 0) rest (drop 1 flags) (drop 1 lengths) (drop 2 letters)
