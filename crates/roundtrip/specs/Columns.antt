-- The columns of an item list: what the writer is given for it beside its octets.
use Rattle.std.specs.Prelude.{ℕ, List, [], ◌∷◌, length}
use Rattle.image.specs.Items.{Item}

unfoldable pub kinds_of : List Item → List ℕ
kinds_of [] = []
kinds_of (item ∷ rest) = item.kind ∷ kinds_of rest

unfoldable pub flags_of : List Item → List ℕ
flags_of [] = []
flags_of (item ∷ rest) = item.flags ∷ flags_of rest

unfoldable pub lengths_of : List Item → List ℕ
lengths_of [] = []
lengths_of (item ∷ rest) = length item.bytes ∷ lengths_of rest

unfoldable pub letters_of : List Item → List ℕ
letters_of [] = []
letters_of (item ∷ rest) = item.first ∷ item.second ∷ letters_of rest
