-- What is seen is outside or a place, and has its distance so. A walk ends outside only where it has no place, its places are all
-- below the number of places, and a place more makes it one longer.
use Prim.Native.Nat.{ℕ, ◌+◌, ◌<◌, ◌≤◌}
use mathlib.Core.Path.{◌≡◌, ap, ◌∙◌}
use mathlib.Core.Bool.{Bool}
use mathlib.Core.List.{List, [], ◌∷◌, ◌++◌}
use mathlib.Core.Logic.{◌⊎◌, inl, inr}
use native.Mathlib.Omega.{arith}
use borrow.Author.Tests.{eq-eqb, ne_eqb}
use lib.ListN.{length, get_or, length-append}
use Rattle.graph.specs.Search.{Reached, Seen, outside, place, distance_of, Walk, begun, gone}
use Rattle.graph.proofs.Ranks.{Small, no_place, one-more}

-- a place that is seen is outside, or reached
pub seen_by : {A : Type 0} {n : ℕ} {table : List ℕ} {v : ℕ} → Seen n table v → (v ≡ n → A) → (v < n → Reached table v → A) → A
seen_by (outside e) f h = f e
seen_by (place l r) f h = h l r

pub seen-le : {n : ℕ} {parent : List ℕ} {v : ℕ} → Seen n parent v → v ≤ n
seen-le (outside e) = omega arith
seen-le (place h r) = omega arith

pub distance-outside : (n : ℕ) (distance : List ℕ) (u : ℕ) → u ≡ n → distance_of n distance u ≡ 0
unfolding distance_of
distance-outside n distance u e = rw (eq-eqb u n e)

pub distance-place : (n : ℕ) (distance : List ℕ) (u : ℕ) → u < n → distance_of n distance u ≡ get_or distance u 0
unfolding distance_of
distance-place n distance u l = rw (ne_eqb u n (omega arith))

pub longer-by-one : (p : List ℕ) (v : ℕ) {q : List ℕ} → q ≡ p ++ (v ∷ []) → length q ≡ length p + 1
longer-by-one p v e = ap length e ∙ simp length-append

small-snoc : {p : List ℕ} {v : ℕ} → Small p → v < 97 → Small (p ++ (v ∷ []))
small-snoc {v = v} no_place h = one-more {v = v} h no_place
small-snoc (one-more {v = u} k m) h = one-more {v = u} k (small-snoc m h)

module _ {n : ℕ} {step : ℕ → ℕ → Bool} where
  pub walk_end : {v : ℕ} {p : List ℕ} → Walk n step v p → ((v ≡ n) × (p ≡ [])) ⊎ (v < n)
  walk_end (begun e z) = inl (e, z)
  walk_end (gone w l s q) = inr l

  pub walk-small : {v : ℕ} {p : List ℕ} → n ≤ 96 → Walk n step v p → Small p
  walk-small few (begun e z) = rw z no_place
  walk-small {v} few (gone w l s q) = rw q (small-snoc (walk-small few w) (omega arith))
