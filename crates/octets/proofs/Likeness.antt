-- Two strings of octets are alike just if they are equal, so they are where all their parts are.
use Prim.Native.Nat.{ℕ, ◌+◌, ◌-◌, ◌<◌, ◌≤◌}
use mathlib.Core.Bool.{Bool, true, false, true≢false, ◌&&◌, and-true, and_assoc}
use mathlib.Core.List.{List, [], ◌∷◌, ◌++◌}
use mathlib.Core.Path.{◌≡◌, refl, ap, sym, ◌∙◌}
use native.Mathlib.Numerals.{add-one}
use native.Mathlib.Omega.{arith}
use borrow.Author.Tests.{eqb-true, eq-eqb}
use lib.Dec.{eqb}
use lib.ListN.{length, get_or, take, drop}
use lib.Seq.{length-take-le, take-suc, take-add, take-take}
use Rattle.std.proofs.lemmas.List.{take-append-drop}
use borrow.Author.Rules.{part_to_end}
use Rattle.octets.specs.Alike.{alike}

-- a conjunction's parts
both_left : (p q : Bool) → (p && q) ≡ true → p ≡ true
both_left true q e = refl
both_left false q e = e

both_right : (p q : Bool) → (p && q) ≡ true → q ≡ true
both_right true q e = e
both_right false q e = cc

pub alike_is : (a b : List ℕ) → alike a b ≡ true → a ≡ b
unfolding alike
alike_is [] [] e = refl
alike_is [] (y ∷ ys) e = cc
alike_is (x ∷ xs) [] e = cc
alike_is (x ∷ xs) (y ∷ ys) e = cc (eqb-true x y (both_left (eqb x y) (alike xs ys) e), alike_is xs ys (both_right (eqb x y) (alike xs ys) e))

pub alike_self : (a : List ℕ) → alike a a ≡ true
unfolding alike
alike_self [] = refl
alike_self (x ∷ xs) = simp (eq-eqb x x refl, alike_self xs)

pub is-alike : (a b : List ℕ) → a ≡ b → alike a b ≡ true
is-alike a b e = rw e (alike_self b)

pub unequal-unlike : (a b : List ℕ) → (a ≡ b → ⊥) → alike a b ≡ false
unequal-unlike a b h = go (alike a b) refl
  where
    go : (t : Bool) → alike a b ≡ t → t ≡ false
    go true e = absurd (h (alike_is a b e))
    go false e = refl

pub unlike-length : (a b : List ℕ) → (length a ≡ length b → ⊥) → alike a b ≡ false
unlike-length a b h = unequal-unlike a b (λ e. h (ap length e))

-- strings are not alike where something of them is not
pub unlike-by : (f : List ℕ → List ℕ) (a b : List ℕ) → alike (f a) (f b) ≡ false → alike a b ≡ false
unlike-by f a b h = unequal-unlike a b λ e. absurd (true≢false (sym (is-alike _ _ (ap f e)) ∙ h))

-- one octet more
alike-more : (a b : List ℕ) (x y : ℕ) → length a ≡ length b → alike (a ++ (x ∷ [])) (b ++ (y ∷ [])) ≡ (alike a b && eqb x y)
unfolding alike
alike-more [] [] x y h = and-true (eqb x y)
alike-more [] (q ∷ b) x y h = absurd (omega arith)
alike-more (p ∷ a) [] x y h = absurd (omega arith)
alike-more (p ∷ a) (q ∷ b) x y h = rw (alike-more a b x y (omega arith)) (sym (and_assoc (eqb p q) (alike a b) (eqb x y)))

pub alike_next : (a b : List ℕ) (i : ℕ) → i < length a → i < length b
    → alike (take (i + 1) a) (take (i + 1) b) ≡ (alike (take i a) (take i b) && eqb (get_or a i 0) (get_or b i 0))
alike_next a b i h g =
    rw (add-one, take-suc a i 0 h, take-suc b i 0 g)
    (alike-more _ _ _ _ (length-take-le i a (omega arith) ∙ sym (length-take-le i b (omega arith))))

module _ (a b : List ℕ) (at : ℕ) where
  -- the octets up to one offset, and as many more
  pub taken_more : (count : ℕ) → take at a ≡ take at b → alike (take count (drop at a)) (take count (drop at b)) ≡ true
      → take (at + count) a ≡ take (at + count) b
  taken_more count e h = rw (take-add at count a, take-add at count b, e, alike_is _ _ h)

  -- where the octets up to some offset are equal, the last ones decide
  pub alike-last : (i : ℕ) → at ≤ i → take i a ≡ take i b
      → alike (take (length a - at) (drop at a)) (take (length b - at) (drop at b)) ≡ alike a b
  alike-last i h e = rw (part_to_end a at, part_to_end b at) (go (alike (drop at a) (drop at b)) refl)
    where
      before : take at a ≡ take at b
      before = sym (take-take at i a h) ∙ ap (take at) e ∙ take-take at i b h

      all : alike (drop at a) (drop at b) ≡ true → a ≡ b
      all g = sym (take-append-drop at a) ∙ cc (before, alike_is _ _ g, take-append-drop at b)

      go : (t : Bool) → alike (drop at a) (drop at b) ≡ t → alike (drop at a) (drop at b) ≡ alike a b
      go true g = g ∙ sym (is-alike a b (all g))
      go false g = g ∙ sym (unlike-by (drop at) a b g)

-- three octets, one by one
pub three : (c : List ℕ) → length c ≡ 3 → c ≡ get_or c 0 0 ∷ get_or c 1 0 ∷ get_or c 2 0 ∷ []
three [] h = absurd (omega arith)
three (x ∷ []) h = absurd (omega arith)
three (x ∷ y ∷ []) h = absurd (omega arith)
three (x ∷ y ∷ z ∷ []) h = refl
three (x ∷ y ∷ z ∷ w ∷ rest) h = absurd (omega arith)
