-- The items of a list that pass a test, and where they stand in it.
use Rattle.std.specs.Prelude.{ℕ, ◌+◌, Bool, cond, List, [], ◌∷◌}
use Rattle.image.specs.Items.{Item}

-- those that pass, in their order
unfoldable pub chosen : (Item → Bool) → List Item → List Item
chosen test [] = []
chosen test (item ∷ rest) = cond (test item) (item ∷ chosen test rest) (chosen test rest)

-- their places, where the first item of the list stands at `place`
unfoldable pub places_from : (Item → Bool) → ℕ → List Item → List ℕ
places_from test place [] = []
places_from test place (item ∷ rest) = cond (test item) (place ∷ places_from test (place + 1) rest) (places_from test (place + 1) rest)
