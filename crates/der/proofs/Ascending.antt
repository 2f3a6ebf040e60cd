-- Encodings are compared by their first octets, and where these are equal by what follows: so "not smaller" is an order that every
-- two encodings are in, and two that are in it both ways begin alike.
use Prim.Native.Nat.{ℕ, zero, suc, ◌≤◌, ◌<◌}
use mathlib.Core.Bool.{Bool, true, false, true≢false}
use mathlib.Core.List.{List, [], ◌∷◌, ◌++◌, append-nil}
use mathlib.Core.Path.{◌≡◌, refl, sym, ◌∙◌, ap, ap₂}
use native.Mathlib.Omega.{arith}
use borrow.Author.Tests.{ltb-true, ltb-false, eqb-true, eqb-false, lt-ltb, le-ltb, eq-eqb, ne_eqb}
use lib.Dec.{ltb, eqb}
use lib.ListN.{length, get_or, take, drop}
use Rattle.der.specs.Order.{smaller}

pub smaller-none : (a : List ℕ) → smaller a [] ≡ false
unfolding smaller
smaller-none a = refl

module _ (a : List ℕ) (y : ℕ) (b : List ℕ) where
  pub smaller-first : get_or a 0 0 < y → smaller a (y ∷ b) ≡ true
  unfolding smaller
  smaller-first h = simp (lt-ltb _ _ h)

  pub smaller-next : get_or a 0 0 ≡ y → smaller a (y ∷ b) ≡ smaller (drop 1 a) b
  unfolding smaller
  smaller-next h =
      let le : y ≤ get_or a 0 0 = omega arith in
      simp (le-ltb _ _ le, eq-eqb _ _ h)

  pub smaller-not : y < get_or a 0 0 → smaller a (y ∷ b) ≡ false
  unfolding smaller
  smaller-not h =
      let le : y ≤ get_or a 0 0 = omega arith in
      simp (le-ltb _ _ le, ne_eqb (get_or a 0 0) y (λ e. omega arith))

-- two numbers are in one of three ways
compared : {P : Type 0} (x y : ℕ) → (x < y → P) → (x ≡ y → P) → (y < x → P) → P
compared {P} x y less same more = go (ltb x y) (eqb x y) (ltb-true x y) (ltb-false x y) (eqb-true x y) (eqb-false x y)
  where
    go : (b c : Bool) → (b ≡ true → x < y) → (b ≡ false → y ≤ x) → (c ≡ true → x ≡ y) → (c ≡ false → x ≡ y → ⊥) → P
    go true c f g h k = less (f refl)
    go false true f g h k = same (h refl)
    go false false f g h k = let le = g refl in more (omega (arith, le, k refl))

-- a member that is not smaller has a first octet that is not, and where it is the same one, the rest is not
pub risen-first : (a b : List ℕ) → smaller a b ≡ false → get_or b 0 0 ≤ get_or a 0 0
risen-first a [] e = omega arith
risen-first a (y ∷ b) e =
    compared (get_or a 0 0) y (λ h. absurd (true≢false (sym (smaller-first a y b h) ∙ e))) (λ h. omega arith) (λ h. omega arith)

pub risen-next : (a b : List ℕ) → get_or a 0 0 ≡ get_or b 0 0 → smaller a b ≡ false → smaller (drop 1 a) (drop 1 b) ≡ false
risen-next a [] h e = smaller-none (drop 1 a)
risen-next a (y ∷ b) h e = sym (smaller-next a y b h) ∙ e

-- no encoding is smaller than itself
pub risen-self : (a : List ℕ) → smaller a a ≡ false
risen-self [] = smaller-none []
risen-self (x ∷ a) = smaller-next (x ∷ a) x a refl ∙ risen-self a

-- of two encodings one at least is not smaller than the other
pub risen-back : (a b : List ℕ) → smaller a b ≡ true → smaller b a ≡ false
risen-back a [] e = absurd (true≢false (sym e ∙ smaller-none a))
risen-back [] (y ∷ b) e = smaller-none (y ∷ b)
risen-back (x ∷ a) (y ∷ b) e =
    compared x y (λ h. smaller-not (y ∷ b) x a h)
    (λ h. smaller-next (y ∷ b) x a (sym h) ∙ risen-back a b (sym (smaller-next (x ∷ a) y b h) ∙ e))
    λ h. absurd (true≢false (sym e ∙ smaller-not (x ∷ a) y b h))

pub risen-through : (a b c : List ℕ) → smaller b a ≡ false → smaller c b ≡ false → smaller c a ≡ false
risen-through [] b c e f = smaller-none c
risen-through (x ∷ a) b c e f =
    let low : x ≤ get_or b 0 0 = risen-first b (x ∷ a) e in
    let high : get_or b 0 0 ≤ get_or c 0 0 = risen-first c b f in
    compared (get_or c 0 0) x (λ h. absurd (omega arith))
    (λ h. smaller-next c x a h ∙ risen-through a (drop 1 b) (drop 1 c) (risen-next b (x ∷ a) (omega arith) e) (risen-next c b (omega arith) f))
    (λ h. smaller-not c x a h)

-- two encodings of which neither is smaller begin alike, and one is the front of the other
pub risen-both : (a b : List ℕ) → smaller a b ≡ false → smaller b a ≡ false → (r : List ℕ) × (q : List ℕ) × (a ++ r ≡ b ++ q)
risen-both [] b e f = (b, [], sym (append-nil b))
risen-both (x ∷ a) [] e f = ([], x ∷ a, append-nil (x ∷ a))
risen-both (x ∷ a) (y ∷ b) e f =
    let low : y ≤ x = risen-first (x ∷ a) (y ∷ b) e in
    let high : x ≤ y = risen-first (y ∷ b) (x ∷ a) f in
    let same : x ≡ y = omega arith in
    let (r, q, rest) = risen-both a b (risen-next (x ∷ a) (y ∷ b) same e) (risen-next (y ∷ b) (x ∷ a) (sym same) f) in
    (r, q, ap₂ ◌∷◌ same rest)

-- octets that are the same at the front of both change nothing
pub smaller-behind : (k : ℕ) (a b : List ℕ) → k ≤ length a → k ≤ length b → take k a ≡ take k b → smaller (drop k a) (drop k b) ≡ smaller a b
smaller-behind zero a b h g e = refl
smaller-behind (suc k) [] b h g e = absurd (omega arith)
smaller-behind (suc k) (x ∷ a) [] h g e = absurd (omega arith)
smaller-behind (suc k) (x ∷ a) (y ∷ b) h g e =
    smaller-behind k a b (omega arith) (omega arith) (ap (drop 1) e) ∙ sym (smaller-next (x ∷ a) y b (ap (λ (l : List ℕ). get_or l 0 0) e))
