-- A table has no more filled slots than slots, and filling an empty one makes one more: so a search that fills a slot for
-- each place that it enters never enters more places than there are slots.
use mathlib.Core.Path.{◌≡◌, refl}
use mathlib.Core.List.{List, [], ◌∷◌}
use mathlib.Core.Logic.{⊎_elim}
use Prim.Native.Nat.{ℕ, zero, suc, ◌<◌, ◌≤◌}
use native.Mathlib.Omega.{arith}
use borrow.Author.Tests.{eq-eqb, ne_eqb}
use lib.ListN.{length, get_or, set, replicate}
use Rattle.graph.specs.Search.{filled}
use Rattle.graph.proofs.Cases.{same?}

pub filled-le : (xs : List ℕ) → filled xs ≤ length xs
unfolding filled
filled-le [] = omega arith
filled-le (x ∷ xs) =
    ⊎_elim (λ e. rw (eq-eqb x 255 e) (omega (arith, filled-le xs))) (λ e. rw (ne_eqb x 255 e) (omega (arith, filled-le xs))) (same? x 255)

pub filled-set : (xs : List ℕ) (i a : ℕ) → i < length xs → get_or xs i 0 ≡ 255 → (a ≡ 255 → ⊥) → filled (set xs i a) ≡ suc (filled xs)
unfolding filled
filled-set [] i a h e f = absurd (omega arith)
filled-set (x ∷ xs) zero a h e f = rw (ne_eqb a 255 f, eq-eqb x 255 e)
filled-set (x ∷ xs) (suc i) a h e f =
    let more : filled (set xs i a) ≡ suc (filled xs) = filled-set xs i a (omega arith) e f in
    ⊎_elim (λ t. rw (eq-eqb x 255 t, more)) (λ t. rw (ne_eqb x 255 t, more)) (same? x 255)

pub filled_none : (k : ℕ) → filled (replicate k 255) ≡ 0
unfolding filled
filled_none zero = refl
filled_none (suc k) = filled_none k
