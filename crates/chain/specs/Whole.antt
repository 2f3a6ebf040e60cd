-- What is made of an image whose items are all open. No public promise cites this.
use Rattle.std.specs.Prelude.{ℕ, ◌<◌, ◌≡◌, List}
use Rattle.image.specs.Items.{Item}
use Rattle.usable.specs.Items.{item_at}
use Rattle.usable.specs.Rows.{row_of, row_at}

-- a table has the row of each place; the items start at the octets `at`
abbrev pub AllOpen : ℕ → ℕ → List Item → (ℕ → ℕ) → List (List ℕ) → Type 0
AllOpen moment n items at rows = (p : ℕ) → p < n → row_at rows p ≡ row_of moment (item_at items p) (at p)
