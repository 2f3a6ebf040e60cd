-- A chain is one of another graph, in which each place that stands in it may stand too and each of its steps is good.
use Prim.Native.Nat.{ℕ, ◌<◌}
use mathlib.Core.Path.{◌≡◌, subst}
use mathlib.Core.Bool.{true}
use mathlib.Core.List.{List}
use Rattle.graph.specs.Chains.{Graph, Onward, ends, goes, Chain, chain}

pub record Within (g h : Graph) : Type 0 where
  pub places : g.places ≡ h.places
  pub anchor : (u : ℕ) → u < g.places → g.anchor u ≡ true → h.anchor u ≡ true
  pub link : (u : ℕ) → u < g.places → g.link u ≡ true → h.link u ≡ true
  pub signer : (u : ℕ) → u < g.places → g.signer u ≡ true → h.signer u ≡ true
  pub step : (u v : ℕ) → u < g.places → v < g.places → g.step u v ≡ true → h.step u v ≡ true

there : {g h : Graph} → Within g h → {u : ℕ} → u < g.places → u < h.places
there w {u} l = subst (λ (n : ℕ). u < n) w.places l

onward : {g h : Graph} → Within g h → {target u : ℕ} {c : List ℕ} → u < g.places → Onward g target u c → Onward h target u c
onward w {target} {u} here (ends l signer step) = ends (there w l) (w.signer target l signer) (w.step u target here l step)
onward w {target} {u} here (goes {v = v} l link step rest) =
    goes {v = v} (there w l) (w.link v l link) (w.step u v here l step) (onward w l rest)

pub carried : {g h : Graph} → Within g h → {target : ℕ} (c : List ℕ) → Chain g target c → Chain h target c
carried w c (chain {u = u} l anchor rest) = chain {u = u} (there w l) (w.anchor u l anchor) (onward w l rest)
