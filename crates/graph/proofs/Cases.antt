-- Two numbers are equal or not, and one is less or not, and a test is true or false, not both: the tests on numbers tell.
use mathlib.Core.Path.{◌≡◌, refl}
use mathlib.Core.Bool.{Bool, true, false}
use mathlib.Core.Logic.{◌⊎◌, inl, inr}
use Prim.Native.Nat.{ℕ, ◌<◌, ◌≤◌}
use native.Mathlib.Omega.{arith}
use borrow.Author.Tests.{eqb-true, eqb-false, ltb-true, ltb-false}
use lib.Dec.{eqb, ltb}

module _ (a b : ℕ) where
  pub same? : (a ≡ b) ⊎ (a ≡ b → ⊥)
  same? = go (eqb a b) refl
    where
      go : (t : Bool) → eqb a b ≡ t → (a ≡ b) ⊎ (a ≡ b → ⊥)
      go true e = inl (eqb-true a b e)
      go false e = inr (eqb-false a b e)

  pub less? : (a < b) ⊎ (b ≤ a)
  less? = go (ltb a b) refl
    where
      go : (t : Bool) → ltb a b ≡ t → (a < b) ⊎ (b ≤ a)
      go true e = inl (ltb-true a b e)
      go false e = inr (ltb-false a b e)

pub clash : {b : Bool} → b ≡ true → b ≡ false → ⊥
clash p q = let z : ◌≡◌ {A = ℕ} 0 1 = cc in omega arith

pub either : {A : Type 0} (b : Bool) → (b ≡ true → A) → (b ≡ false → A) → A
either true f h = f refl
either false f h = h refl
