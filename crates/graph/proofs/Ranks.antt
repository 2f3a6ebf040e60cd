-- Places below 97 are the digits 1 to 97 of a number in base 97 without the digit 0: so the shorter of two chains is the
-- smaller number, and of two as long the one that comes first.
use mathlib.Core.Path.{◌≡◌, refl}
use mathlib.Core.List.{List, [], ◌∷◌, ◌++◌}
use mathlib.Core.Logic.{◌⊎◌, inl, inr, ⊎_elim}
use Prim.Native.Nat.{ℕ, ◌+◌, ◌*◌, ◌<◌, ◌≤◌}
use native.Mathlib.Omega.{arith}
use lib.ListN.{length}
use Rattle.graph.specs.Chains.{NotLater, done, less, same}
use Rattle.graph.specs.Search.{rank_from, rank}
use Rattle.graph.proofs.Cases.{same?, less?}

pub data Small : List ℕ → Type 0 where
  no_place : Small []
  one-more : {v : ℕ} {p : List ℕ} → v < 97 → Small p → Small (v ∷ p)

rank-snoc-from : (a : ℕ) (p : List ℕ) (v : ℕ) → rank_from a (p ++ (v ∷ [])) ≡ rank_from a p * 97 + v + 1
unfolding rank_from
rank-snoc-from a [] v = refl
rank-snoc-from a (u ∷ p) v = rank-snoc-from (a * 97 + u + 1) p v

pub rank-snoc : (p : List ℕ) (v : ℕ) → rank (p ++ (v ∷ [])) ≡ rank p * 97 + v + 1
rank-snoc p v = rank-snoc-from 0 p v

rank-grows : (a : ℕ) (p : List ℕ) → a ≤ rank_from a p
unfolding rank_from
rank-grows a [] = omega arith
rank-grows a (v ∷ p) = omega (arith, rank-grows (a * 97 + v + 1) p)

rank_less : {q : List ℕ} (p : List ℕ) (a b : ℕ) → Small q → a < b → length q ≤ length p → rank_from a q < rank_from b p
unfolding rank_from
rank_less p a b no_place h l = omega (arith, rank-grows b p)
rank_less [] a b (one-more s m) h l = absurd (omega arith)
rank_less (u ∷ p) a b (one-more {v} s m) h l = rank_less p (a * 97 + v + 1) (b * 97 + u + 1) m (omega arith) (omega arith)

-- a smaller number is a chain that is shorter, or is as long and comes no later
first-from : (a : ℕ) (p : List ℕ) {q : List ℕ} → Small q → length p ≡ length q → rank_from a p ≤ rank_from a q → NotLater p q
unfolding rank_from
first-from a [] no_place l r = done
first-from a (u ∷ p) no_place l r = absurd (omega arith)
first-from a [] (one-more s m) l r = absurd (omega arith)
first-from a (u ∷ p) (one-more {v} s m) l r =
    ⊎_elim
    (λ e. rw e (same (first-from (a * 97 + v + 1) p m (omega arith) (rw e at r))))
    (λ d. ⊎_elim
    (λ h. absurd (omega (arith, rank_less p (a * 97 + v + 1) (a * 97 + u + 1) m (omega arith) (omega arith))))
    (λ h. less (omega arith))
    (less? v u))
    (same? u v)

-- the shorter of two chains is the smaller number
pub rank-shorter : (p : List ℕ) {q : List ℕ} → Small q → length q < length p → rank q < rank p
unfolding rank_from
rank-shorter [] m h = absurd (omega arith)
rank-shorter (u ∷ p) m h = rank_less p 0 (0 * 97 + u + 1) m (omega arith) (omega arith)

pub rank-first : (p : List ℕ) {q : List ℕ} → Small q → rank p ≤ rank q → (length p < length q) ⊎ ((length p ≡ length q) × NotLater p q)
unfolding rank_from
rank-first p {q} m r = go (less? (length p) (length q)) (less? (length q) (length p))
  where
    go : (length p < length q) ⊎ (length q ≤ length p) → (length q < length p) ⊎ (length p ≤ length q) → (length p < length q) ⊎ ((length p ≡ length q) × NotLater p q)
    go (inl h) k = inl h
    go (inr h) (inl k) = absurd (omega (arith, rank-shorter p m k))
    go (inr h) (inr k) = let l : length p ≡ length q = omega arith in inr (l, first-from 0 p m l r)
