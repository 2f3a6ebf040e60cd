-- Item lists that an image can hold.
use Rattle.std.specs.Prelude.{ℕ, ◌≤◌, ◌≡◌, true, List, [], ◌∷◌, length}
use Rattle.octets.specs.Octets.{Octets}
use Rattle.calendar.specs.Days.{real_day}
use Rattle.image.specs.Items.{Item, image_bytes}
use Rattle.image.specs.Rules.{fields_good}
use Rattle.writer.specs.Writing.{version_good, letters_good}

-- each item has its fields in their ranges, and octets; two letters, which are zeros in version 1
pub data GoodItems (version : ℕ) : List Item → Type 0 where
  no_item : GoodItems version []
  good-item :
      {item : Item} {rest : List Item} → fields_good item.kind item.flags (length item.bytes) ≡ true
      → Octets item.bytes → Octets (item.first ∷ item.second ∷ [])
      → letters_good version (item.first ∷ item.second ∷ []) ≡ true → GoodItems version rest
      → GoodItems version (item ∷ rest)

-- good items, not too many, with a real day, whose image of a known version is not too long
pub record Fits (version : ℕ) (items : List Item) (day : ℕ) : Type 0 where
  pub known : version_good version ≡ true
  pub good : GoodItems version items
  pub few : length items ≤ 96
  pub real : real_day 1950 2099 day ≡ true
  pub small : length (image_bytes version items day) ≤ 262144
