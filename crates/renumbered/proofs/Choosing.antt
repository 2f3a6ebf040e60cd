-- The items of a list that pass a test: one that passes stands behind as many as pass before it, and there are no others.
use Prim.Native.Nat.{ℕ, zero, suc, ◌+◌, ◌<◌}
use mathlib.Core.Path.{◌≡◌, refl, ap}
use mathlib.Core.Bool.{Bool, true, false}
use mathlib.Core.List.{List, [], ◌∷◌}
use native.Mathlib.Omega.{arith}
use lib.ListN.{length, get_or, take}
use Rattle.graph.proofs.Cases.{either}
use Rattle.image.specs.Items.{Item}
use Rattle.image.specs.Chosen.{chosen, places_from}

module _ (test : Item → Bool) (default : Item) where
  -- how many before a place pass
  abbrev pub before : List Item → ℕ → ℕ
  before items place = length (chosen test (take place items))

  -- where an item that passes stands among those that pass
  pub stands :
      (items : List Item) (base place : ℕ) → place < length items → test (get_or items place default) ≡ true
      → (before items place < length (chosen test items))
      × (get_or (chosen test items) (before items place) default ≡ get_or items place default)
      × (get_or (places_from test base items) (before items place) 0 ≡ base + place)
  unfolding chosen places_from
  stands [] base place h e = absurd (omega arith)
  stands (item ∷ rest) base zero h e = rw e (omega arith, refl, omega arith)
  stands (item ∷ rest) base (suc place) h e =
      let (inside, same, from) = stands rest (base + 1) place (omega arith) e in
      either (test item) (λ t. rw t (omega (arith, inside), same, omega (arith, from))) (λ t. rw t (inside, same, omega (arith, from)))

  -- and of each of those that pass, where it stood
  pub record Stood (items : List Item) (base k : ℕ) : Type 0 where
    pub place : ℕ
    pub inside : place < length items
    pub passes : test (get_or items place default) ≡ true
    pub number : before items place ≡ k
    pub from : get_or (places_from test base items) k 0 ≡ base + place

  module _ (item : Item) (rest : List Item) (base : ℕ) where
    behind-one : (k : ℕ) → test item ≡ true → Stood rest (base + 1) k → Stood (item ∷ rest) base (suc k)
    unfolding chosen places_from
    behind-one k t w =
        record {
          place = suc w.place;
          inside = omega (arith, w.inside);
          passes = w.passes;
          number = rw t (ap suc w.number);
          from = rw t (omega (arith, w.from));
        }

    behind-none : (k : ℕ) → test item ≡ false → Stood rest (base + 1) k → Stood (item ∷ rest) base k
    unfolding chosen places_from
    behind-none k t w =
        record {
          place = suc w.place;
          inside = omega (arith, w.inside);
          passes = w.passes;
          number = rw t w.number;
          from = rw t (omega (arith, w.from));
        }

    at-first : test item ≡ true → Stood (item ∷ rest) base 0
    unfolding chosen places_from
    at-first t = record { place = 0; inside = omega arith; passes = t; number = refl; from = rw t (omega arith) }

  pub stood : (items : List Item) (base k : ℕ) → k < length (chosen test items) → Stood items base k
  unfolding chosen
  stood [] base k h = absurd (omega arith)
  stood (item ∷ rest) base zero h =
      either (test item) (at-first item rest base) (λ t. behind-none item rest base zero t (stood rest (base + 1) zero (rw t at h)))
  stood (item ∷ rest) base (suc k) h =
      either (test item)
      (λ t.
      let more : suc k < suc (length (chosen test rest)) = rw t at h in
      behind-one item rest base k t (stood rest (base + 1) k (omega (arith, more))))
      (λ t. behind-none item rest base (suc k) t (stood rest (base + 1) (suc k) (rw t at h)))

  -- behind one that passes stand more
  pub rises :
      (items : List Item) (p q : ℕ) → p < length items → test (get_or items p default) ≡ true → p < q → before items p < before items q
  unfolding chosen
  rises [] p q h e l = absurd (omega arith)
  rises (item ∷ rest) p zero h e l = absurd (omega arith)
  rises (item ∷ rest) zero (suc q) h e l = rw e (omega arith)
  rises (item ∷ rest) (suc p) (suc q) h e l =
      let less : before rest p < before rest q = rises rest p q (omega arith) e (omega arith) in
      either (test item) (λ t. rw t (omega (arith, less))) (λ t. rw t less)

module _ (test : Item → Bool) where
  -- as many places as items
  pub places-many : (items : List Item) (base : ℕ) → length (places_from test base items) ≡ length (chosen test items)
  unfolding chosen places_from
  places-many [] base = refl
  places-many (item ∷ rest) base =
      let many = places-many rest (base + 1) in either (test item) (λ t. rw t (ap suc many)) (λ t. rw t many)

  -- of those that pass, all pass
  pub chosen-again : (items : List Item) → chosen test (chosen test items) ≡ chosen test items
  unfolding chosen
  chosen-again [] = refl
  chosen-again (item ∷ rest) =
      let again = chosen-again rest in either (test item) (λ t. rw (t, t, again)) (λ t. rw t again)

  pub places-again :
      (items : List Item) (base k : ℕ) → k < length (chosen test items) → get_or (places_from test base (chosen test items)) k 0 ≡ base + k
  unfolding chosen places_from
  places-again [] base k h = absurd (omega arith)
  places-again (item ∷ rest) base zero h =
      either (test item) (λ t. rw (t, t) (omega arith)) (λ t. rw t (places-again rest base zero (rw t at h)))
  places-again (item ∷ rest) base (suc k) h =
      either (test item)
      (λ t.
      let more : suc k < suc (length (chosen test rest)) = rw t at h in
      rw (t, t) (omega (arith, places-again rest (base + 1) k (omega (arith, more)))))
      (λ t. rw t (places-again rest base (suc k) (rw t at h)))
