-- Where all places are looked at, those found are what is listed.
use Prim.Native.Nat.{ℕ, ◌≤◌}
use mathlib.Core.Path.{◌≡◌}
use mathlib.Core.Bool.{Bool}
use mathlib.Core.List.{List}
use Rattle.image.specs.Items.{Item}
use Rattle.image.specs.Index.{items_in}
use Rattle.image.specs.Chosen.{places_from}
use Rattle.image.proofs.Choosing.{Turn, all_found}
use Rattle.anchors.specs.Listing.{listed_as}

pub end_of :
    {s : List ℕ} {entries : ℕ} {test : Item → Bool} {places : List ℕ} {count next : ℕ} → Turn s entries test places count next → entries ≤ next
    → record { count = count; places = places } ≡ listed_as (places_from test 0 (items_in s))
unfolding listed_as
end_of t h = rw (t.slots, t.many, all_found t h)
