-- The steps that a search follows are those of good chains: a chain's inner places are links, and no signer is left again.
use Prim.Native.Nat.{ℕ, ◌<◌}
use mathlib.Core.Path.{◌≡◌, refl}
use mathlib.Core.Bool.{Bool, true, false, cond}
use mathlib.Core.Logic.{◌⊎◌, inl, inr}
use mathlib.Core.List.{List}
use native.Mathlib.Omega.{arith}
use borrow.Author.Tests.{eqb-true, eq-eqb, ne_eqb}
use lib.ListN.{get_or}
use Rattle.graph.specs.Chains.{Graph, graph_by}
use Rattle.graph.specs.Search.{followed}
use Rattle.graph.proofs.Cases.{clash}

-- a signer is neither an anchor nor a link
pub record Apart (g : Graph) : Type 0 where
  pub anchors : {v : ℕ} → g.anchor v ≡ true → g.signer v ≡ false
  pub links : {v : ℕ} → g.link v ≡ true → g.signer v ≡ false

pub roles-apart : (places : ℕ) (roles : List ℕ) (step : ℕ → ℕ → Bool) → Apart (graph_by places roles step)
roles-apart places roles step =
    record {
      anchors = λ {v} h. ne_eqb (get_or roles v 0) 3 (λ e. omega (arith, eqb-true (get_or roles v 0) 1 h));
      links = λ {v} h. ne_eqb (get_or roles v 0) 3 (λ e. omega (arith, eqb-true (get_or roles v 0) 2 h));
    }

module _ (n : ℕ) (g : Graph) where
  pub opens : {v : ℕ} → g.anchor v ≡ true → followed n g n v ≡ true
  unfolding followed
  opens h = rw (eq-eqb n n refl) h

  pub opened : {v : ℕ} → followed n g n v ≡ true → g.anchor v ≡ true
  unfolding followed
  opened h = rw (eq-eqb n n refl) at h

  pub from-signer : {u : ℕ} (v : ℕ) → u < n → g.signer u ≡ true → followed n g u v ≡ false
  unfolding followed
  from-signer {u} v h s = rw (ne_eqb u n (omega arith), s)

  module _ {u v : ℕ} (h : u < n) where
    pub to-link : g.signer u ≡ false → g.link v ≡ true → g.step u v ≡ true → followed n g u v ≡ true
    unfolding followed
    to-link s l e = rw (ne_eqb u n (omega arith), s, l) e

    pub to-signer : g.signer u ≡ false → g.signer v ≡ true → g.step u v ≡ true → followed n g u v ≡ true
    unfolding followed
    to-signer s l e = rw (ne_eqb u n (omega arith), s, l) (go (g.link v))
      where
        go : (b : Bool) → cond b (g.step u v) (g.step u v) ≡ true
        go true = e
        go false = e

    pub stepped : followed n g u v ≡ true → (g.signer u ≡ false) × (g.step u v ≡ true) × ((g.link v ≡ true) ⊎ (g.signer v ≡ true))
    unfolding followed
    stepped f = go (g.signer u) (g.link v) (g.signer v) (g.step u v) (rw (ne_eqb u n (omega arith)) at f)
      where
        go : (a b c d : Bool) → cond a false (cond b d (cond c d false)) ≡ true → (a ≡ false) × (d ≡ true) × ((b ≡ true) ⊎ (c ≡ true))
        go true b c d e = absurd (clash e refl)
        go false true c d e = (refl, e, inl refl)
        go false false true d e = (refl, e, inr refl)
        go false false false d e = absurd (clash e refl)

    module _ (s : g.signer u ≡ false) where
      pub no_step : g.step u v ≡ false → followed n g u v ≡ false
      unfolding followed
      no_step e = rw (ne_eqb u n (omega arith), s, e) (go (g.link v) (g.signer v))
        where
          go : (b c : Bool) → cond b false (cond c false false) ≡ false
          go true c = refl
          go false true = refl
          go false false = refl

      pub by-signer : g.step u v ≡ true → g.link v ≡ false → followed n g u v ≡ g.signer v
      unfolding followed
      by-signer e l = rw (ne_eqb u n (omega arith), s, l, e) (go (g.signer v))
        where
          go : (b : Bool) → cond b true false ≡ b
          go true = refl
          go false = refl
