-- Moving an image to the other version: the same items, flags and day; to version 2 with the true letters, to version 1 with
-- none. Refusals: 5, where an image of any version but the other one breaks rule 2; 3 for an image over 262,144 octets; 9 for an
-- output without room for it.
use Rattle.refusal.specs.declared.Refusal.{Refusal}
use Rattle.std.specs.Prelude.{ℕ, cond, List, [], ◌∷◌, leb, eqb, length, Result, Ok, Err}
use Rattle.refusal.specs.declared.Refusal.TheVariants.{Limit, Short}
use Rattle.image.specs.declared.Opened.{Opened}
use Rattle.image.specs.Answer.{opened_as}
use Rattle.image.specs.Items.{Item, image_bytes}
use Rattle.image.specs.Index.{day_in, items_in}
use Rattle.writer.specs.Writing.{on_written}
use Rattle.letters.specs.declared.telling.Country.{Country}
use Rattle.letters.specs.TrueLetters.{no_country, true_of}

-- the version that is moved from
unfoldable pub other : ℕ → ℕ
other version = cond (eqb version 2) 1 2

-- an item with the letters of a country
abbrev pub with_letters : Item → Country → Item
with_letters item country =
    record {
      kind = item.kind;
      flags = item.flags;
      bytes = item.bytes;
      first = country.first;
      second = country.second;
    }

-- the letters of an item in a version: the true ones, or none
unfoldable pub country_for : ℕ → ℕ → List ℕ → Country
country_for version kind bytes = cond (eqb version 2) (true_of kind bytes) no_country

-- the item as it stands in a version
unfoldable pub moved_item : ℕ → Item → Item
moved_item version item = with_letters item (country_for version item.kind item.bytes)

unfoldable pub moved_items : ℕ → List Item → List Item
moved_items version [] = []
moved_items version (item ∷ rest) = moved_item version item ∷ moved_items version rest

-- the image that is written
unfoldable pub moved_bytes : ℕ → List ℕ → List ℕ
moved_bytes version s = image_bytes version (moved_items version (items_in s)) (day_in s)

unfoldable pub on_moved : ℕ → ℕ → Result Opened Refusal → Result ℕ Refusal
on_moved size room (Err refusal) = Err refusal
on_moved size room (Ok o) =
    cond (leb size 262144) (cond (leb size room) (Ok size) (Err Short)) (Err (Limit 0))

unfoldable pub moved_of : ℕ → List ℕ → ℕ → Result ℕ Refusal
moved_of version s room = on_moved (length (moved_bytes version s)) room (opened_as (other version) s)

-- the output after the call: the image and what stood beyond it; as it was on a refusal
unfoldable pub output_of : ℕ → List ℕ → List ℕ → List ℕ
output_of version s old = on_written (moved_of version s (length old)) (moved_bytes version s) old
