-- What functions of the crate tell each other. No promise of a public function cites it.
use Rattle.std.specs.Prelude.{ℕ, Bool, true, false}
use Rattle.image.specs.Items.{Item}
use Rattle.anchors.specs.Listing.{full_for, short_for}

-- the test of either question: by the index or not
unfoldable pub test_for : Bool → ℕ → ℕ → Item → Bool
test_for true first second = short_for first second
test_for false first second = full_for first second
