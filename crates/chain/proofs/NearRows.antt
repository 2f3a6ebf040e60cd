-- Rows that stay, and those that a round opens, are the rows of what is near and wanted.
use Prim.Native.Nat.{ℕ, ◌<◌}
use mathlib.Core.Path.{◌≡◌, refl, sym, ◌∙◌}
use mathlib.Core.Bool.{Bool, true, false, cond, ◌&&◌}
use mathlib.Core.List.{List}
use lib.ListN.{length}
use Rattle.image.specs.Items.{Item}
use Rattle.usable.specs.Items.{item_at}
use Rattle.usable.specs.Rows.{blank, row_of, row_at, is_near}
use Rattle.usable.proofs.Booleans.{false-true}
use Rattle.usable.proofs.Scope.{Told}
use Rattle.chain.specs.Near.{fresh_of}
use Rattle.chain.specs.Rounds.{wanted_of, row_in, Opens}
use Rattle.chain.proofs.HomeScope.{is_open}

pub told-next :
    (a b : ℕ) (items : List Item) (at : ℕ → ℕ) (table : List ℕ) (moment : ℕ) (before near : List ℕ) (rows more : List (List ℕ))
    → Told moment items at (is_open a b items table before) rows
    → ((p : ℕ) → p < length items → is_near before p ≡ true → is_near near p ≡ true)
    → Opens moment a b (length items) table items at before near rows more → Told moment items at (is_open a b items table near) more
unfolding row_in is_near fresh_of
told-next a b items at table moment before near rows more told kept opens p h =
    opens p h ∙ go (is_near near p) refl (is_near before p) refl (wanted_of a b (length items) table items p) (told p h)
  where
    go :
        (x : Bool) → is_near near p ≡ x → (y : Bool) → is_near before p ≡ y → (w : Bool)
        → row_at rows p ≡ cond (y && w) (row_of moment (item_at items p) (at p)) blank
        → cond (cond x (cond y false true) false) (cond w (row_of moment (item_at items p) (at p)) (row_at rows p)) (row_at rows p)
        ≡ cond (x && w) (row_of moment (item_at items p) (at p)) blank
    go true k true e w t = t
    go true k false e true t = refl
    go true k false e false t = t
    go false k false e w t = t
    go false k true e w t = false-true (sym k ∙ kept p h e)
