-- Items of a list that are chosen fit into an image where all of them did.
use Prim.Native.Nat.{ℕ, ◌+◌, ◌*◌, ◌≤◌}
use mathlib.Core.Path.{◌≡◌, refl}
use mathlib.Core.Bool.{Bool, true, false}
use mathlib.Core.List.{List, [], ◌∷◌}
use native.Mathlib.Omega.{arith}
use native.Mathlib.Nat.{mul-le-mul_left}
use lib.ListN.{length, length-append}
use Rattle.image.specs.Items.{Item, packed}
use Rattle.image.specs.Index.{width}
use Rattle.image.specs.Chosen.{chosen}
use Rattle.image.proofs.Sizes.{length-image}
use Rattle.roundtrip.specs.Good.{GoodItems, no_item, good-item, Fits}

pub either : {A : Type 0} (b : Bool) → (b ≡ true → A) → (b ≡ false → A) → A
either true f h = f refl
either false f h = h refl

module _ (test : Item → Bool) where
  chosen-good : {version : ℕ} {items : List Item} → GoodItems version items → GoodItems version (chosen test items)
  unfolding chosen
  chosen-good no_item = no_item
  chosen-good (good-item {item} fields o pair letters good) =
      let others = chosen-good good in
      either (test item) (λ t. rw t (good-item fields o pair letters others)) (λ t. rw t others)

  pub chosen-fewer :
      (items : List Item)
      → (length (chosen test items) ≤ length items) × (length (packed (chosen test items)) ≤ length (packed items))
  unfolding chosen packed
  chosen-fewer [] = (omega arith, omega arith)
  chosen-fewer (item ∷ rest) =
      let (few, short) = chosen-fewer rest in
      let whole : length (packed (item ∷ rest)) ≡ length item.bytes + length (packed rest) = length-append item.bytes (packed rest) in
      either (test item)
      (λ t. rw t (omega (arith, few), omega (arith, short, whole, length-append item.bytes (packed (chosen test rest)))))
      (λ t. rw t (omega (arith, few), omega (arith, short, whole)))

  pub chosen-fits : {version day : ℕ} {items : List Item} → Fits version items day → Fits version (chosen test items) day
  chosen-fits {version} {day} {items} f =
      let (few, short) = chosen-fewer items in
      let wide : width version * length (chosen test items) ≤ width version * length items = mul-le-mul_left (width version) few in
      record {
        known = f.known;
        good = chosen-good f.good;
        few = omega (arith, few, f.few);
        real = f.real;
        small = omega (arith, short, wide, f.small, length-image version items day, length-image version (chosen test items) day);
      }
