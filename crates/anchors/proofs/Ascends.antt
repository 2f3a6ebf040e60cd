-- The places of the items that pass a test ascend.
use Prim.Native.Nat.{ℕ, zero, suc, ◌<◌}
use mathlib.Core.Path.{◌≡◌, refl}
use mathlib.Core.Bool.{Bool, true, false}
use mathlib.Core.List.{List, [], ◌∷◌}
use native.Mathlib.Omega.{arith}
use lib.ListN.{length, get_or}
use Rattle.image.specs.Items.{Item}
use Rattle.image.specs.Chosen.{places_from}
use Rattle.image.proofs.Choosing.{places-skip, places-take}
use Rattle.anchors.proofs.Picked.{Ascending, found-passes}

ascending-none : Ascending []
unfolding Ascending
ascending-none i j h k = absurd (omega arith)

ascending-more : (x : ℕ) (l : List ℕ) → ((j : ℕ) → j < length l → x < get_or l j 255) → Ascending l → Ascending (x ∷ l)
unfolding Ascending
ascending-more x l least a i zero h k = absurd (omega arith)
ascending-more x l least a zero (suc j) h k = least j (omega arith)
ascending-more x l least a (suc i) (suc j) h k = a i j (omega arith) (omega arith)

module _ (test : Item → Bool) where
  -- one item more in front
  module _ (item : Item) (rest : List Item) (from : ℕ) where
    abbrev behind : List ℕ
    behind = places_from test (suc from) rest

    abbrev all : List ℕ
    all = places_from test from (item ∷ rest)

    one-ascends :
        (b : Bool) → test item ≡ b → ((j : ℕ) → j < length behind → from < get_or behind j 255) → Ascending behind → Ascending all
    one-ascends true e least more = rw (places-take test from item rest e) (ascending-more from behind least more)
    one-ascends false e least more = rw (places-skip test from item rest e) more

  pub ascends : (items : List Item) (from : ℕ) → Ascending (places_from test from items)
  unfolding places_from
  ascends [] from = ascending-none
  ascends (item ∷ rest) from =
      one-ascends item rest from (test item) refl (λ j h. omega (arith, (found-passes test rest (suc from) j h).here)) (ascends rest (suc from))
