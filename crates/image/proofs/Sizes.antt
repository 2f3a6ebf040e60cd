-- An image is its items, an entry for each, and twelve octets.
use mathlib.Core.Path.{◌≡◌, refl}
use mathlib.Core.List.{List, [], ◌∷◌, ◌++◌}
use Prim.Native.Nat.{ℕ, ◌+◌, ◌*◌}
use native.Mathlib.Omega.{arith}
use lib.ListN.{length, length-append}
use Rattle.octets.specs.Octets.{big}
use Rattle.image.specs.Index.{width}
use Rattle.image.specs.Items.{Item, packed, entry_bytes, index_bytes, trailer_bytes, image_bytes}
use Rattle.image.proofs.Widths.{entry_length}

pub length-index :
    (version offset : ℕ) (items : List Item) → length (index_bytes version offset items) ≡ width version * length items
unfolding index_bytes
length-index version offset [] = omega arith
length-index version offset (item ∷ rest) =
    let size : ℕ = length item.bytes in
    omega (
      arith,
      length-append (entry_bytes version item.kind item.flags size offset item.first item.second)
          (index_bytes version (offset + size) rest),
      entry_length version item.kind item.flags size offset item.first item.second,
      length-index version (offset + size) rest,
    )

pub length-trailer : (version start entries day : ℕ) → length (trailer_bytes version start entries day) ≡ 12
unfolding trailer_bytes big
length-trailer version start entries day = refl

pub length-image :
    (version : ℕ) (items : List Item) (day : ℕ)
    → length (image_bytes version items day) ≡ length (packed items) + width version * length items + 12
unfolding image_bytes
length-image version items day =
    let trailer : List ℕ = trailer_bytes version (length (packed items)) (length items) day in
    omega (
      arith,
      length-append (packed items) (index_bytes version 0 items ++ trailer),
      length-append (index_bytes version 0 items) trailer,
      length-index version 0 items,
      length-trailer version (length (packed items)) (length items) day,
    )
