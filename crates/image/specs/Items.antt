-- A trust image: its items, its day, and the octets that hold them.
use Rattle.std.specs.Prelude.{ℕ, ◌+◌, cond, List, [], ◌∷◌, ◌++◌, eqb, length}
use Rattle.octets.specs.Octets.{big}

-- kind 1 anchor, 2 link, 3 DS, 4 CRL; flags 1 or 0 for an anchor, enabled or not, else 0; the two letters of its issuer's country
-- as the index tells them, zeros in version 1
pub record Item : Type 0 where
  pub kind : ℕ
  pub flags : ℕ
  pub bytes : List ℕ
  pub first : ℕ
  pub second : ℕ

-- the items back to back
unfoldable pub packed : List Item → List ℕ
packed [] = []
packed (item ∷ rest) = item.bytes ++ packed rest

-- what version 2 has behind the octets of a version 1 entry: the letters, and two zeros
unfoldable pub letters_bytes : ℕ → ℕ → ℕ → List ℕ
letters_bytes version first second = cond (eqb version 2) (first ∷ second ∷ 0 ∷ 0 ∷ []) []

-- an index entry: kind, flags, length (2), offset (4), and what the version has behind these
unfoldable pub entry_bytes : ℕ → ℕ → ℕ → ℕ → ℕ → ℕ → ℕ → List ℕ
entry_bytes version kind flags size offset first second =
    kind ∷ flags ∷ (big 2 size ++ (big 4 offset ++ letters_bytes version first second))

-- the entries, the first item standing at `offset`
unfoldable pub index_bytes : ℕ → ℕ → List Item → List ℕ
index_bytes version offset [] = []
index_bytes version offset (item ∷ rest) =
    entry_bytes version item.kind item.flags (length item.bytes) offset item.first item.second
    ++ index_bytes version (offset + length item.bytes) rest

-- the trailer: index start (4), entries (2), version (2), day (4)
unfoldable pub trailer_bytes : ℕ → ℕ → ℕ → ℕ → List ℕ
trailer_bytes version start entries day = big 4 start ++ (big 2 entries ++ (big 2 version ++ big 4 day))

unfoldable pub image_bytes : ℕ → List Item → ℕ → List ℕ
image_bytes version items day =
    packed items ++ (index_bytes version 0 items ++ trailer_bytes version (length (packed items)) (length items) day)
