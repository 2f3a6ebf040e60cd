-- What is read of a place's entry and item decides whether the item's letters are true, since the entry tells the item.
use Prim.Native.Nat.{ℕ, ◌+◌, ◌<◌, ◌≤◌}
use mathlib.Core.Path.{◌≡◌, sym, ◌∙◌}
use mathlib.Core.Bool.{Bool, true, false}
use mathlib.Core.List.{List}
use native.Mathlib.Numerals.{add-one}
use native.Mathlib.Omega.{arith}
use lib.ListN.{length, drop, drop_of_length-le}
use Rattle.image.specs.declared.IndexEntry.{IndexEntry}
use Rattle.image.specs.Index.{entry_count, entry_in, item_at, items_in}
use Rattle.image.proofs.Places.{length-items, items-behind}
use Rattle.letters.specs.declared.telling.Country.{Country}
use Rattle.letters.specs.TrueLetters.{true_of, spells, lettered, all_lettered}

-- an entry, its item's octets, the item's true letters, and whether the entry's are these
module _ (s : List ℕ) (place : ℕ) (h : place < entry_count s) {e : IndexEntry} (is : e ≡ entry_in s place) where
  module _ {bytes : List ℕ} (part : bytes ≡ (item_at s (entry_in s place)).bytes) where
    module _ {country : Country} (told : country ≡ true_of e.kind bytes) where
      module _ {answer : Bool} (spelled : answer ≡ spells e.first e.second country) where
        judged : answer ≡ lettered (item_at s (entry_in s place))
        unfolding lettered item_at
        judged = rw (spelled, told, part, is)

        pub letters-false : answer ≡ false → false ≡ all_lettered (drop place (items_in s))
        unfolding all_lettered
        letters-false wrong = rw (items-behind s place h, sym judged ∙ wrong)

        pub letters-more : answer ≡ true → all_lettered (drop place (items_in s)) ≡ all_lettered (drop (place + 1) (items_in s))
        unfolding all_lettered
        letters-more right = rw (add-one, items-behind s place h, sym judged ∙ right)

-- behind the last place nothing is left to be false
pub letters-end : (s : List ℕ) (place : ℕ) → entry_count s ≤ place → true ≡ all_lettered (drop place (items_in s))
unfolding all_lettered
letters-end s place h =
    let past : length (items_in s) ≤ place = omega (arith, length-items s) in
    rw (drop_of_length-le (items_in s) past)
