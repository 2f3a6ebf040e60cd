-- Of which places the rows are told, and for which of them what is open decides. Where everything is open both are all places.
use Prim.Native.Nat.{ℕ, ◌<◌, ◌≤◌}
use mathlib.Core.Path.{◌≡◌}
use mathlib.Core.Bool.{Bool, true, cond}
use mathlib.Core.List.{List}
use mathlib.Core.Logic.{◌⊎◌}
use lib.Dec.{eqb}
use lib.ListN.{length}
use Rattle.image.specs.Items.{Item}
use Rattle.usable.specs.declared.opened.Row.{Row}
use Rattle.usable.specs.Items.{item_at}
use Rattle.usable.specs.Usable.{usable_anchor, same_country, counts, covers}
use Rattle.usable.specs.Rows.{blank, row_of, row_at}

-- the item of a place is held where a row of it says: its first octet is number `at` of those that all items stand in
abbrev pub Placed : (Row → List ℕ) → List Item → (ℕ → ℕ) → Type 0
Placed held items at =
    (p : ℕ) → p < length items → (row : Row) → row.at ≡ at p → row.size ≡ length (item_at items p).bytes → held row ≡ (item_at items p).bytes

-- the row of a place that is open, and else a blank one
abbrev pub Told : ℕ → List Item → (ℕ → ℕ) → (ℕ → Bool) → List (List ℕ) → Type 0
Told moment items at there rows = (p : ℕ) → p < length items → row_at rows p ≡ cond (there p) (row_of moment (item_at items p) (at p)) blank

pub record Scope (items : List Item) (verdict : ℕ → ℕ → Bool) (moment : ℕ) (there within : ℕ → Bool) : Type 0 where
  -- of anchors and CRLs those are open that are within
  pub asked :
      (p : ℕ) → p < length items → (eqb (item_at items p).kind 1 ≡ true) ⊎ (eqb (item_at items p).kind 4 ≡ true) → there p ≡ within p
  -- what is within is open
  pub inner : (p : ℕ) → p < length items → within p ≡ true → there p ≡ true
  -- an anchor that vouches for a CRL is within where the CRL is
  pub vouching :
      (u c : ℕ) → u < length items → c < length items → within c ≡ true → eqb (item_at items c).kind 4 ≡ true
      → usable_anchor items moment u ≡ true → same_country items u c ≡ true → verdict u c ≡ true → within u ≡ true
  -- and so is a link or signer that is open where a CRL is that covers it
  pub covering :
      (c p : ℕ) → c < length items → p < length items → counts items verdict moment c ≡ true → there p ≡ true
      → 2 ≤ (item_at items p).kind → (item_at items p).kind ≤ 3 → covers items c p ≡ true → within c ≡ within p
