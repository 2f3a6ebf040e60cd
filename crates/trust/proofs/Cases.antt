-- Two places are the same or not; two tests joined by and hold still; a test of some place follows place by place.
use Prim.Native.Nat.{ℕ, zero, suc, ◌<◌}
use native.Mathlib.Omega.{arith}
use mathlib.Core.Path.{◌≡◌, refl}
use mathlib.Core.Bool.{Bool, true, false, ◌&&◌, ◌||◌}
use borrow.Author.Tests.{eqb-true, eqb-false}
use lib.Dec.{eqb}
use Rattle.usable.specs.Items.{some_below}
use Rattle.usable.proofs.Booleans.{false-true}

pub by_place : {A : Type 0} (p q : ℕ) → (p ≡ q → A) → ((p ≡ q → ⊥) → A) → A
by_place {A} p q same other = go (eqb p q) refl
  where
    go : (b : Bool) → eqb p q ≡ b → A
    go true e = same (eqb-true p q e)
    go false e = other (eqb-false p q e)

pub and-more : (a b x y : Bool) → (a ≡ true → x ≡ true) → (b ≡ true → y ≡ true) → (a && b) ≡ true → (x && y) ≡ true
and-more true b x y f g e = rw (f refl, g e)
and-more false b x y f g e = false-true e

pub some_same : (n : ℕ) (a b : ℕ → Bool) → ((p : ℕ) → p < n → a p ≡ b p) → some_below n a ≡ some_below n b
unfolding some_below
some_same zero a b same = refl
some_same (suc n) a b same = rw (same n (omega arith), some_same n a b (λ p h. same p (omega arith)))

pub some_more : (n : ℕ) (a b : ℕ → Bool) → ((p : ℕ) → p < n → a p ≡ true → b p ≡ true) → some_below n a ≡ true → some_below n b ≡ true
unfolding some_below
some_more zero a b more e = false-true e
some_more (suc n) a b more e = go (a n) (b n) (more n (omega arith)) (some_more n a b (λ p h. more p (omega arith))) e
  where
    go :
        (x y : Bool) → (x ≡ true → y ≡ true) → (some_below n a ≡ true → some_below n b ≡ true) → (x || some_below n a) ≡ true
        → (y || some_below n b) ≡ true
    go x true here below f = refl
    go true false here below f = false-true (here refl)
    go false false here below f = below f
