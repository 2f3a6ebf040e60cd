-- An index entry and the item that it tells.
use Rattle.std.specs.Prelude.{◌≡◌, length}
use Rattle.image.specs.declared.IndexEntry.{IndexEntry}
use Rattle.image.specs.Items.{Item}

-- the entry has the item's kind, flags, length and letters
pub record Tells (entry : IndexEntry) (item : Item) : Type 0 where
  pub kind : entry.kind ≡ item.kind
  pub flags : entry.flags ≡ item.flags
  pub long : entry.length ≡ length item.bytes
  pub first : entry.first ≡ item.first
  pub second : entry.second ≡ item.second
