-- What the columns of an image are filled from, and what they then are. No public promise cites this.
use Rattle.std.specs.Prelude.{ℕ, ◌*◌, ◌≤◌, ◌≡◌, List, length, take, drop}
use Rattle.image.specs.declared.IndexEntry.{IndexEntry}
use Rattle.image.specs.Index.{items_in}
use Rattle.roundtrip.specs.Columns.{kinds_of, flags_of, lengths_of, letters_of}
use Rattle.moves.specs.Moving.{moved_items}

-- an entry whose kind, flags and length are small, and whose item is whole
pub record Small (s : List ℕ) (e : IndexEntry) : Type 0 where
  pub kind : e.kind ≤ 4
  pub flags : e.flags ≤ 1
  pub size : e.length ≤ 16384
  pub whole : length (take e.length (drop e.offset s)) ≡ e.length

-- the columns of an image's items in a version, for so many items
pub record Tabled (version : ℕ) (s : List ℕ) (n : ℕ) (kinds flags sizes letters : List ℕ) : Type 0 where
  pub long-kinds : length kinds ≡ 96
  pub long-flags : length flags ≡ 96
  pub long-sizes : length sizes ≡ 96
  pub long-letters : length letters ≡ 192
  pub kinds-are : take n kinds ≡ kinds_of (items_in s)
  pub flags-are : take n flags ≡ flags_of (items_in s)
  pub sizes-are : take n sizes ≡ lengths_of (items_in s)
  pub letters-are : take (2 * n) letters ≡ letters_of (moved_items version (items_in s))
