-- What stands in an image's trailer and index, and the items that they tell.
use Rattle.std.specs.Prelude.{ℕ, zero, suc, ◌+◌, ◌-◌, ◌*◌, cond, List, [], ◌∷◌, eqb, length, take, drop}
use Rattle.octets.specs.Octets.{number}
use Rattle.image.specs.declared.IndexEntry.{IndexEntry}
use Rattle.image.specs.Items.{Item}

-- the big-endian number in k octets at an offset
unfoldable pub field : List ℕ → ℕ → ℕ → ℕ
field s at k = number (take k (drop at s))

-- the trailer is the last 12 octets
unfoldable pub index_start : List ℕ → ℕ
index_start s = field s (length s - 12) 4

unfoldable pub entry_count : List ℕ → ℕ
entry_count s = field s (length s - 8) 2

unfoldable pub version_in : List ℕ → ℕ
version_in s = field s (length s - 6) 2

unfoldable pub day_in : List ℕ → ℕ
day_in s = field s (length s - 4) 4

-- the octets of an index entry, by the version: 12 in version 2, else 8
unfoldable pub width : ℕ → ℕ
width version = cond (eqb version 2) 12 8

-- an octet behind those of a version 1 entry: zero where there is none
unfoldable pub letter_at : ℕ → List ℕ → ℕ → ℕ
letter_at version s at = cond (eqb version 2) (field s at 1) 0

-- the index entry of a version at an offset
unfoldable pub entry_at : ℕ → List ℕ → ℕ → IndexEntry
entry_at version s at =
    record {
      kind = field s at 1;
      flags = field s (at + 1) 1;
      length = field s (at + 2) 2;
      offset = field s (at + 4) 4;
      first = letter_at version s (at + 8);
      second = letter_at version s (at + 9);
    }

-- the entry of a place, where the entries are of a version
abbrev pub entry_of : ℕ → List ℕ → ℕ → IndexEntry
entry_of version s place = entry_at version s (index_start s + width version * place)

-- the entry of a place
unfoldable pub entry_in : List ℕ → ℕ → IndexEntry
entry_in s place = entry_of (version_in s) s place

-- the item that an entry tells
unfoldable pub item_at : List ℕ → IndexEntry → Item
item_at s e =
    record {
      kind = e.kind;
      flags = e.flags;
      bytes = take e.length (drop e.offset s);
      first = e.first;
      second = e.second;
    }

-- the items of some places in a row, whose entries are of a version
unfoldable pub items_from : ℕ → List ℕ → ℕ → ℕ → List Item
items_from version s at zero = []
items_from version s at (suc left) = item_at s (entry_at version s at) ∷ items_from version s (at + width version) left

-- the item list of an image: what chains stand on
unfoldable pub items_in : List ℕ → List Item
items_in s = items_from (version_in s) s (index_start s) (entry_count s)
