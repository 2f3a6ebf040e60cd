-- Among items in a row, that of a place is told by the entry of that place, and there are as many items as entries.
use Prim.Native.Nat.{ℕ, zero, suc, ◌+◌, ◌*◌, ◌<◌}
use mathlib.Core.Path.{◌≡◌, refl, ap, ◌∙◌}
use mathlib.Core.List.{List, ◌∷◌}
use native.Mathlib.Omega.{arith}
use lib.ListN.{length, get_or, drop}
use lib.Seq.{drop-cons}
use Rattle.image.specs.Items.{Item}
use Rattle.image.specs.Index.{index_start, entry_count, version_in, width, entry_at, entry_of, entry_in, item_at, items_from, items_in}

pub item_from :
    (version : ℕ) (s : List ℕ) (left at place : ℕ) (default : Item) → place < left
    → get_or (items_from version s at left) place default ≡ item_at s (entry_at version s (at + width version * place))
unfolding items_from
item_from version s zero at place default h = absurd (omega arith)
item_from version s (suc left) at zero default h =
    let here : at ≡ at + width version * 0 = omega arith in
    ap (λ (n : ℕ). item_at s (entry_at version s n)) here
item_from version s (suc left) at (suc place) default h =
    let there : at + width version + width version * place ≡ at + width version * suc place = omega arith in
    item_from version s left (at + width version) place default (omega arith) ∙ ap (λ (n : ℕ). item_at s (entry_at version s n)) there

length_from : (version : ℕ) (s : List ℕ) (at left : ℕ) → length (items_from version s at left) ≡ left
unfolding items_from
length_from version s at zero = refl
length_from version s at (suc left) = ap suc (length_from version s (at + width version) left)

-- of a whole image
module _ (s : List ℕ) where
  pub length-items : length (items_in s) ≡ entry_count s
  unfolding items_in
  length-items = length_from (version_in s) s (index_start s) (entry_count s)

  pub item_in : (place : ℕ) (default : Item) → place < entry_count s → get_or (items_in s) place default ≡ item_at s (entry_in s place)
  unfolding items_in entry_in
  item_in place default h = item_from (version_in s) s (entry_count s) (index_start s) place default h

  -- the entry of a place, where the version is the image's own
  pub entry-own : {version : ℕ} → version ≡ version_in s → (place : ℕ) → entry_of version s place ≡ entry_in s place
  unfolding entry_in
  entry-own is place = ap (λ (v : ℕ). entry_of v s place) is

  -- the item of a place and those behind it
  pub items-behind : (place : ℕ) → place < entry_count s → drop place (items_in s) ≡ item_at s (entry_in s place) ∷ drop (suc place) (items_in s)
  items-behind place h =
      let default : Item = item_at s (entry_in s place) in
      drop-cons (items_in s) place default (rw length-items h) ∙ ap (λ (item : Item). item ∷ drop (suc place) (items_in s)) (item_in place default h)
