-- The item of a place is what its index entry tells, since the item list is made entry by entry; and it is held where a row of it says.
use Prim.Native.Nat.{ℕ, zero, suc, ◌<◌}
use mathlib.Core.Path.{◌≡◌, refl, ap}
use mathlib.Core.List.{List, [], ◌∷◌}
use lib.ListN.{length, take, drop}
use Rattle.image.specs.declared.IndexEntry.{IndexEntry}
use Rattle.image.specs.Index as image
use Rattle.image.specs.Index.{entry_in, items_in, index_start, entry_count, version_in}
use Rattle.image.proofs.Places.{item_from, length-items}
use Rattle.usable.specs.declared.opened.Row.{Row}
use Rattle.usable.specs.Items.{item_at}
use Rattle.usable.specs.Rows.{held_in, row_of}
use Rattle.usable.proofs.Scope.{Placed}
use Rattle.chain.specs.Rounds.{starts_in}

-- kind, flags, octets and letters of a place are those that its entry tells
pub item-told :
    (s : List ℕ) (place : ℕ) → place < entry_count s
    → item_at (items_in s) place
    ≡ record {
      kind = (entry_in s place).kind;
      flags = (entry_in s place).flags;
      bytes = take (entry_in s place).length (drop (entry_in s place).offset s);
      first = (entry_in s place).first;
      second = (entry_in s place).second;
    }
unfolding item_at items_in entry_in image.item_at
item-told s place h = item_from (version_in s) s (entry_count s) (index_start s) place _ h

-- as many octets as were taken
take_again : (k : ℕ) (x : List ℕ) → take (length (take k x)) x ≡ take k x
take_again zero x = refl
take_again (suc k) [] = refl
take_again (suc k) (o ∷ x) = ap (λ (y : List ℕ). o ∷ y) (take_again k x)

pub image-placed : (s : List ℕ) → Placed (held_in s) (items_in s) (starts_in s)
unfolding held_in starts_in
image-placed s p h row at size =
    let told = item-told s p (rw (length-items s) at h) in
    rw (at, size, told) (take_again (entry_in s p).length (drop (entry_in s p).offset s))

-- what was read of a place's entry tells its item, and the row that is made of it is the item's
module _ (s : List ℕ) (place : ℕ) (h : place < entry_count s) {e : IndexEntry} (is : e ≡ entry_in s place) {bytes : List ℕ} (part : bytes ≡ take e.length (drop e.offset s)) where
  pub kind-read : (item_at (items_in s) place).kind ≡ e.kind
  kind-read = rw (item-told s place h, is)

  pub bytes_read : (item_at (items_in s) place).bytes ≡ bytes
  bytes_read = rw (item-told s place h, part, is)

  pub row_read :
      (moment : ℕ) {row : Row}
      → ((a b : ℕ) → row ≡ row_of moment (record { kind = e.kind; flags = e.flags; bytes = bytes; first = a; second = b }) e.offset)
      → row ≡ row_of moment (item_at (items_in s) place) (starts_in s place)
  unfolding starts_in
  row_read moment r = rw (item-told s place h) (rw (part, is) at (r e.first e.second))
