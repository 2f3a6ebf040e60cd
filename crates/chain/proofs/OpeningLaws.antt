-- One law for each answer of the rows that a round leaves.
use Prim.Native.Nat.{ℕ}
use mathlib.Core.Path.{◌≡◌}
use mathlib.Core.Bool.{true, false}
use mathlib.Core.List.{List}
use lib.ListN.{get_or}
use Rattle.image.specs.Items.{Item}
use Rattle.usable.specs.declared.opened.Row.{Row}
use Rattle.usable.specs.Items.{item_at}
use Rattle.usable.specs.Rows.{row_of, row_at}
use Rattle.chain.specs.Near.{fresh_of}
use Rattle.chain.specs.Rounds.{wanted_of, row_in}

module _ (moment a b n : ℕ) (table : List ℕ) (items : List Item) (at : ℕ → ℕ) (before near : List ℕ) (rows : List (List ℕ)) (p : ℕ) where
  pub row_fresh :
      {row : Row} → fresh_of (get_or before p 0) (get_or near p 0) ≡ true → wanted_of a b n table items p ≡ true → row ≡ row_of moment (item_at items p) (at p)
      → row ≡ row_in moment a b n table items at before near rows p
  unfolding row_in
  row_fresh e w h = rw (e, w) h

  pub row-shut :
      fresh_of (get_or before p 0) (get_or near p 0) ≡ true → wanted_of a b n table items p ≡ false
      → row_at rows p ≡ row_in moment a b n table items at before near rows p
  unfolding row_in
  row-shut e w = rw (e, w)

  pub row_stays :
      fresh_of (get_or before p 0) (get_or near p 0) ≡ false → row_at rows p ≡ row_in moment a b n table items at before near rows p
  unfolding row_in
  row_stays e = rw e
