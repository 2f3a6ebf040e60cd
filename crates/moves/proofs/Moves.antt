-- A move keeps the kinds, the flags and the octets of items, and gives each the letters that its version takes.
use Prim.Native.Nat.{ℕ, suc, ◌<◌}
use mathlib.Core.Path.{◌≡◌, refl, sym, ap}
use mathlib.Core.Bool.{Bool, true, false, cond, and-eq-true_iff}
use mathlib.Core.List.{List, [], ◌∷◌, ◌++◌}
use native.Mathlib.Omega.{arith}
use borrow.Author.Tests.{eqb-true, eq-eqb}
use lib.Dec.{eqb}
use lib.ListN.{length}
use Rattle.octets.specs.Octets.{Octets, no-octet, octet}
use Rattle.image.specs.Items.{Item, packed}
use Rattle.writer.specs.Writing.{zeros, letters_good}
use Rattle.roundtrip.specs.Good.{GoodItems, no_item, good-item}
use Rattle.roundtrip.specs.Columns.{kinds_of, flags_of, lengths_of}
use Rattle.letters.specs.declared.telling.Country.{Country}
use Rattle.letters.specs.TrueLetters.{no_country, true_of, spells, lettered, all_lettered}
use Rattle.letters.proofs.Capitals.{true-low}
use Rattle.moves.specs.Moving.{country_for, moved_item, moved_items}

module _ (version : ℕ) where
  pub moved-kinds : (items : List Item) → kinds_of (moved_items version items) ≡ kinds_of items
  unfolding moved_items moved_item kinds_of
  moved-kinds [] = refl
  moved-kinds (item ∷ rest) = ap (λ (l : List ℕ). item.kind ∷ l) (moved-kinds rest)

  pub moved-flags : (items : List Item) → flags_of (moved_items version items) ≡ flags_of items
  unfolding moved_items moved_item flags_of
  moved-flags [] = refl
  moved-flags (item ∷ rest) = ap (λ (l : List ℕ). item.flags ∷ l) (moved-flags rest)

  pub moved-lengths : (items : List Item) → lengths_of (moved_items version items) ≡ lengths_of items
  unfolding moved_items moved_item lengths_of
  moved-lengths [] = refl
  moved-lengths (item ∷ rest) = ap (λ (l : List ℕ). length item.bytes ∷ l) (moved-lengths rest)

  pub moved-packed : (items : List Item) → packed (moved_items version items) ≡ packed items
  unfolding moved_items moved_item packed
  moved-packed [] = refl
  moved-packed (item ∷ rest) = ap (λ (l : List ℕ). item.bytes ++ l) (moved-packed rest)

  pub moved-many : (items : List Item) → length (moved_items version items) ≡ length items
  unfolding moved_items
  moved-many [] = refl
  moved-many (item ∷ rest) = ap suc (moved-many rest)

  module _ (kind : ℕ) (bytes : List ℕ) where
    abbrev both : Country → List ℕ
    both country = country.first ∷ country.second ∷ []

    country-octets : Octets (both (country_for version kind bytes))
    unfolding country_for
    country-octets = go (eqb version 2)
      where
        go : (b : Bool) → Octets (both (cond b (true_of kind bytes) no_country))
        go true =
            let low = true-low kind bytes in
            let one : (true_of kind bytes).first < 256 = omega (arith, low.one) in
            let other : (true_of kind bytes).second < 256 = omega (arith, low.other) in
            octet one (octet other no-octet)
        go false = let none : 0 < 256 = omega arith in octet none (octet none no-octet)

    country-good : letters_good version (both (country_for version kind bytes)) ≡ true
    unfolding country_for letters_good zeros
    country-good = go (eqb version 2)
      where
        go : (b : Bool) → cond b true (zeros (both (cond b (true_of kind bytes) no_country))) ≡ true
        go true = refl
        go false = refl

  pub moved-good : {from : ℕ} {items : List Item} → GoodItems from items → GoodItems version (moved_items version items)
  unfolding moved_items moved_item
  moved-good no_item = no_item
  moved-good (good-item {item} fields o pair letters good) =
      good-item fields o (country-octets item.kind item.bytes) (country-good item.kind item.bytes) (moved-good good)

-- in version 2 each item has its true letters
pub moved-lettered : (items : List Item) → all_lettered (moved_items 2 items) ≡ true
unfolding moved_items moved_item country_for all_lettered lettered spells
moved-lettered [] = refl
moved-lettered (item ∷ rest) =
    let country : Country = true_of item.kind item.bytes in
    rw (eq-eqb country.first _ refl, eq-eqb country.second _ refl, moved-lettered rest)

no-letters : (first second : ℕ) → letters_good 1 (first ∷ second ∷ []) ≡ true → (0 ≡ first) × (0 ≡ second)
unfolding letters_good zeros
no-letters first second e =
    let one = (and-eq-true_iff (eqb first 0) _).0 e in
    let two = (and-eq-true_iff (eqb second 0) _).0 one.1 in
    (sym (eqb-true first 0 one.0), sym (eqb-true second 0 two.0))

-- items of version 1 have no letters, so forth and back they are the same
pub back-forth : {items : List Item} → GoodItems 1 items → moved_items 1 (moved_items 2 items) ≡ items
unfolding moved_items moved_item country_for
back-forth no_item = refl
back-forth (good-item {item} {rest} fields o pair letters good) =
    let none = no-letters item.first item.second letters in
    λ i.
    record {
      kind = item.kind;
      flags = item.flags;
      bytes = item.bytes;
      first = none.0 i;
      second = none.1 i;
    }
    ∷ back-forth good i
