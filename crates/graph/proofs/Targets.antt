-- A chain ends at the place asked for, so that is one of the places, and a signer.
use Prim.Native.Nat.{ℕ, ◌<◌, ◌≤◌}
use mathlib.Core.Path.{◌≡◌}
use mathlib.Core.Bool.{Bool, true}
use mathlib.Core.List.{List}
use mathlib.Core.Logic.{⊎_elim}
use native.Mathlib.Omega.{arith}
use borrow.Author.Tests.{le-leb, lt-leb, eqb-true}
use lib.ListN.{get_or}
use Rattle.graph.specs.Chains.{Graph, graph_by, Onward, ends, goes, Chain, chain}
use Rattle.graph.proofs.Cases.{less?}

pub onward-target : {g : Graph} {t u : ℕ} {c : List ℕ} → Onward g t u c → (t < g.places) × (g.signer t ≡ true)
onward-target (ends l k e) = (l, k)
onward-target (goes l k e o) = onward-target o

pub chain-target : {g : Graph} {t : ℕ} {c : List ℕ} → Chain g t c → (t < g.places) × (g.signer t ≡ true)
chain-target (chain l k o) = onward-target o

module _ (places : ℕ) (roles : List ℕ) (step : ℕ → ℕ → Bool) where
  pub all-places : places ≤ 96 → (graph_by places roles step).places ≡ places
  all-places h = rw (le-leb _ _ h)

  pub at-most-96 : (graph_by places roles step).places ≤ 96
  at-most-96 = ⊎_elim (λ h. rw (lt-leb places 96 h) (omega arith)) (λ h. rw (le-leb places 96 h) h) (less? 96 places)

  pub no-places : 96 < places → (graph_by places roles step).places ≡ 0
  no-places h = rw (lt-leb _ _ h)

  module _ (t : ℕ) where
    pub too_many : 96 < places → (c : List ℕ) → Chain (graph_by places roles step) t c → ⊥
    too_many h c d = omega (arith, no-places h, (chain-target d).0)

    pub no-such-place : places ≤ 96 → places ≤ t → (c : List ℕ) → Chain (graph_by places roles step) t c → ⊥
    no-such-place h l c d = omega (arith, all-places h, (chain-target d).0)

    pub no-signer : (get_or roles t 0 ≡ 3 → ⊥) → (c : List ℕ) → Chain (graph_by places roles step) t c → ⊥
    no-signer f c d = f (eqb-true (get_or roles t 0) 3 (chain-target d).1)
