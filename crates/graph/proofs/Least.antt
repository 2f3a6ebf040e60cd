-- Of the places that pass a test one whose number is least: each place is compared with the best so far, and the better one stays.
use Prim.Native.Nat.{ℕ, zero, suc, ◌<◌, ◌≤◌}
use mathlib.Core.Path.{◌≡◌, refl}
use mathlib.Core.Bool.{Bool, true, false, cond}
use mathlib.Core.Logic.{◌⊎◌, inl, inr, ⊎_elim}
use native.Mathlib.Omega.{arith}
use native.Mathlib.Nat.{le_refl}
use borrow.Author.Tests.{leb-true, leb-false}
use lib.Dec.{leb}
use Rattle.graph.proofs.Cases.{same?, clash}

-- the new one, the one so far, by whether they pass and which is less
choose : Bool → Bool → Bool → ℕ → ℕ → ℕ
choose new old less b m = cond new (cond old (cond less b m) m) b

module _ (test : ℕ → Bool) (size : ℕ → ℕ) (start : ℕ) where
  -- the best of the start and of so many places
  pub least_of : ℕ → ℕ
  least_of zero = start
  least_of (suc m) = choose (test m) (test (least_of m)) (leb (size (least_of m)) (size m)) (least_of m) m

  record Better (b m r : ℕ) : Type 0 where
    new : test m ≡ true → (test r ≡ true) × (size r ≤ size m)
    old : test b ≡ true → (test r ≡ true) × (size r ≤ size b)
    one : (r ≡ b) ⊎ (r ≡ m)

  better : (b m : ℕ) → Better b m (choose (test m) (test b) (leb (size b) (size m)) b m)
  unfolding choose
  better b m = go (test m) refl (test b) refl (leb (size b) (size m)) refl
    where
      go : (x : Bool) → test m ≡ x → (y : Bool) → test b ≡ y → (z : Bool) → leb (size b) (size m) ≡ z → Better b m (choose x y z b m)
      go true p true q true z = record { new = λ e. (q, leb-true _ _ z); old = λ e. (q, le_refl _); one = inl refl }
      go true p true q false z = record { new = λ e. (p, le_refl _); old = λ e. (p, omega (arith, leb-false (size b) (size m) z)); one = inr refl }
      go true p false q z k = record { new = λ e. (p, le_refl _); old = λ e. absurd (clash e q); one = inr refl }
      go false p y q z k = record { new = λ e. absurd (clash e p); old = λ e. (e, le_refl _); one = inl refl }

  pub least-of : (m u : ℕ) → (u ≡ start) ⊎ (u < m) → test u ≡ true → (test (least_of m) ≡ true) × (size (least_of m) ≤ size u)
  unfolding least_of
  least-of zero u (inl e) t = rw e (rw e at t, le_refl _)
  least-of zero u (inr l) t = absurd (omega arith)
  least-of (suc m) u w t =
      ⊎_elim (λ e. rw e ((better (least_of m) m).new (rw e at t)))
      (λ d.
      let x = least-of m u (⊎_elim (λ e. inl e) (λ l. inr (omega arith)) w) t in
      let y = (better (least_of m) m).old x.0 in
      (y.0, omega (arith, x.1, y.1)))
      (same? u m)

  pub least-in : (m : ℕ) → (least_of m ≡ start) ⊎ (least_of m < m)
  unfolding least_of
  least-in zero = inl refl
  least-in (suc m) =
      ⊎_elim
      (λ e. ⊎_elim (λ f. inl (rw e f)) (λ l. inr (rw e (omega arith))) (least-in m))
      (λ e. inr (rw e (omega arith)))
      (better (least_of m) m).one
