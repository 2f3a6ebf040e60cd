-- The places of the items that pass a test: all of these and no others. And what it is that places ascend.
use Prim.Native.Nat.{ℕ, zero, suc, ◌+◌, ◌<◌}
use mathlib.Core.Path.{◌≡◌, refl, subst}
use mathlib.Core.Bool.{Bool, true, false}
use mathlib.Core.List.{List, [], ◌∷◌}
use native.Mathlib.Omega.{arith}
use lib.ListN.{length, get_or}
use Rattle.image.specs.Items.{Item}
use Rattle.image.specs.Chosen.{places_from}
use Rattle.image.proofs.Choosing.{places-skip, places-take}

-- a number stands in a list
pub record Found (l : List ℕ) (place : ℕ) : Type 0 where
  pub slot : ℕ
  pub inside : slot < length l
  pub there : get_or l slot 255 ≡ place

found-behind : {l : List ℕ} (x : ℕ) {place : ℕ} → Found l place → Found (x ∷ l) place
found-behind x f = record { slot = suc f.slot; inside = omega (arith, f.inside); there = f.there }

unfoldable pub Ascending : List ℕ → Type 0
Ascending l = (i j : ℕ) → i < j → j < length l → get_or l i 255 < get_or l j 255

module _ (test : Item → Bool) where
  -- the item of a place passes, the items counted from a place on
  pub record Passes (items : List Item) (from place : ℕ) : Type 0 where
    pub at : ℕ
    pub inside : at < length items
    pub here : place ≡ from + at
    pub passes : (default : Item) → test (get_or items at default) ≡ true

  passes-behind : {rest : List Item} {from place : ℕ} (item : Item) → Passes rest (suc from) place → Passes (item ∷ rest) from place
  passes-behind item p =
      record { at = suc p.at; inside = omega (arith, p.inside); here = omega (arith, p.here); passes = p.passes }

  -- one item more in front
  module _ (item : Item) (rest : List Item) (from : ℕ) where
    abbrev behind : List ℕ
    behind = places_from test (suc from) rest

    abbrev all : List ℕ
    all = places_from test from (item ∷ rest)

    -- the first place, or one of those behind it
    first_passes :
        test item ≡ true → ((j : ℕ) → j < length behind → Passes rest (suc from) (get_or behind j 255)) → (i : ℕ)
        → i < length (from ∷ behind) → Passes (item ∷ rest) from (get_or (from ∷ behind) i 255)
    first_passes e more zero h = record { at = 0; inside = omega arith; here = omega arith; passes = λ default. e }
    first_passes e more (suc j) h = passes-behind item (more j (omega arith))

    one_passes :
        (b : Bool) → test item ≡ b → ((j : ℕ) → j < length behind → Passes rest (suc from) (get_or behind j 255)) → (i : ℕ)
        → i < length all → Passes (item ∷ rest) from (get_or all i 255)
    one_passes true e more i h =
        rw (places-take test from item rest e) (first_passes e more i (rw (places-take test from item rest e) at h))
    one_passes false e more i h =
        rw (places-skip test from item rest e) (passes-behind item (more i (rw (places-skip test from item rest e) at h)))

    one_found : {place : ℕ} (b : Bool) → test item ≡ b → Found behind place → Found all place
    one_found true e more = rw (places-take test from item rest e) (found-behind from more)
    one_found false e more = rw (places-skip test from item rest e) more

  pub found-passes :
      (items : List Item) (from i : ℕ) → i < length (places_from test from items)
      → Passes items from (get_or (places_from test from items) i 255)
  unfolding places_from
  found-passes [] from i h = absurd (omega arith)
  found-passes (item ∷ rest) from i h = one_passes item rest from (test item) refl (λ j k. found-passes rest (suc from) j k) i h

  pub passes-found :
      (items : List Item) (from at : ℕ) → at < length items → ((default : Item) → test (get_or items at default) ≡ true)
      → Found (places_from test from items) (from + at)
  passes-found [] from at h p = absurd (omega arith)
  passes-found (item ∷ rest) from zero h p =
      rw (places-take test from item rest (p item)) (record { slot = 0; inside = omega arith; there = omega arith })
  passes-found (item ∷ rest) from (suc at) h p =
      let one : suc from + at ≡ from + suc at = omega arith in
      one_found item rest from (test item) refl
      (subst (Found (places_from test (suc from) rest)) one (passes-found rest (suc from) at (omega arith) p))
