-- Two graphs, of which the second has those places of the first that stay, renumbered in their order; what stands in a chain stays. Their
-- chains are the same under the new numbers, and so is the best of them.
use Prim.Native.Nat.{ℕ, zero, suc, ◌<◌}
use mathlib.Core.Path.{◌≡◌, sym, ap, ap₂, ◌∙◌}
use mathlib.Core.Bool.{Bool, true}
use mathlib.Core.List.{List, [], ◌∷◌, map}
use mathlib.Core.Logic.{◌⊎◌, inl, inr}
use native.Mathlib.Omega.{arith}
use lib.ListN.{length, get_or, length-map}
use Rattle.graph.specs.Chains.{Graph, Onward, ends, goes, Chain, chain, NotLater, done, less, same, Best}

pub record Matched (g h : Graph) (stay : ℕ → Bool) (new old : ℕ → ℕ) : Type 0 where
  pub inside : (u : ℕ) → u < g.places → stay u ≡ true → new u < h.places
  pub back : (k : ℕ) → k < h.places → (old k < g.places) × (stay (old k) ≡ true) × (new (old k) ≡ k)
  pub forth : (u : ℕ) → u < g.places → stay u ≡ true → old (new u) ≡ u
  pub order : (u v : ℕ) → u < g.places → stay u ≡ true → u < v → new u < new v
  pub old-order : (j k : ℕ) → k < h.places → j < k → old j < old k
  pub anchor : (u : ℕ) → u < g.places → stay u ≡ true → h.anchor (new u) ≡ g.anchor u
  pub link : (u : ℕ) → u < g.places → stay u ≡ true → h.link (new u) ≡ g.link u
  pub signer : (u : ℕ) → u < g.places → stay u ≡ true → h.signer (new u) ≡ g.signer u
  pub step :
      (u v : ℕ) → u < g.places → v < g.places → stay u ≡ true → stay v ≡ true → h.step (new u) (new v) ≡ g.step u v
  pub anchor-stays : (u : ℕ) → u < g.places → g.anchor u ≡ true → stay u ≡ true
  pub link_stays : (u : ℕ) → u < g.places → g.link u ≡ true → stay u ≡ true
  pub signer-stays : (u : ℕ) → u < g.places → g.signer u ≡ true → stay u ≡ true

module _ {g h : Graph} {stay : ℕ → Bool} {new old : ℕ → ℕ} (m : Matched g h stay new old) where
  -- all places of a chain of the first stay
  onward-stays : {t u : ℕ} {c : List ℕ} → Onward g t u c → (i : ℕ) → i < length c → (get_or c i 0 < g.places) × (stay (get_or c i 0) ≡ true)
  onward-stays {t} (ends k signer step) zero l = (k, m.signer-stays t k signer)
  onward-stays (ends k signer step) (suc i) l = absurd (omega arith)
  onward-stays (goes {v = v} k link step rest) zero l = (k, m.link_stays v k link)
  onward-stays (goes k link step rest) (suc i) l = onward-stays rest i (omega arith)

  pub chain-stays : {t : ℕ} {c : List ℕ} → Chain g t c → (i : ℕ) → i < length c → (get_or c i 0 < g.places) × (stay (get_or c i 0) ≡ true)
  chain-stays (chain {u = u} k anchor rest) zero l = (k, m.anchor-stays u k anchor)
  chain-stays (chain k anchor rest) (suc i) l = onward-stays rest i (omega arith)

  -- chains of the first are, renumbered, chains of the second
  onward :
      {t u : ℕ} {c : List ℕ} → u < g.places → stay u ≡ true → Onward g t u c → Onward h (new t) (new u) (map new c)
  onward {t} {u} l a (ends k signer step) =
      let s : stay t ≡ true = m.signer-stays t k signer in
      ends (m.inside t k s) (m.signer t k s ∙ signer) (m.step u t l k a s ∙ step)
  onward {t} {u} l a (goes {v = v} k link step rest) =
      let s : stay v ≡ true = m.link_stays v k link in
      goes {v = new v} (m.inside v k s) (m.link v k s ∙ link) (m.step u v l k a s ∙ step) (onward k s rest)

  pub renumbered : {t : ℕ} {c : List ℕ} → Chain g t c → Chain h (new t) (map new c)
  renumbered (chain {u = u} l anchor rest) =
      let s : stay u ≡ true = m.anchor-stays u l anchor in
      chain {u = new u} (m.inside u l s) (m.anchor u l s ∙ anchor) (onward l s rest)

  -- and each chain of the second comes so from one of the first
  back-signer : (k : ℕ) → k < h.places → g.signer (old k) ≡ h.signer k
  back-signer k l =
      let (below, stays, number) = m.back k l in
      sym (m.signer (old k) below stays) ∙ ap h.signer number

  back-link : (k : ℕ) → k < h.places → g.link (old k) ≡ h.link k
  back-link k l =
      let (below, stays, number) = m.back k l in
      sym (m.link (old k) below stays) ∙ ap h.link number

  back-anchor : (k : ℕ) → k < h.places → g.anchor (old k) ≡ h.anchor k
  back-anchor k l =
      let (below, stays, number) = m.back k l in
      sym (m.anchor (old k) below stays) ∙ ap h.anchor number

  back_step : (j k : ℕ) → j < h.places → k < h.places → g.step (old j) (old k) ≡ h.step j k
  back_step j k l i =
      let (below, stays, number) = m.back j l in
      let (under, keeps, another) = m.back k i in
      sym (m.step (old j) (old k) below under stays keeps) ∙ ap₂ h.step number another

  onward-back : {t u : ℕ} {d : List ℕ} → u < h.places → Onward h t u d → Onward g (old t) (old u) (map old d)
  onward-back {t} {u} l (ends k signer step) =
      ends (m.back t k).0 (back-signer t k ∙ signer) (back_step u t l k ∙ step)
  onward-back {t} {u} l (goes {v = v} k link step rest) =
      goes {v = old v} (m.back v k).0 (back-link v k ∙ link) (back_step u v l k ∙ step) (onward-back k rest)

  onward-numbers : {t u : ℕ} {d : List ℕ} → Onward h t u d → d ≡ map new (map old d)
  onward-numbers {t} (ends k signer step) = ap (λ (x : ℕ). x ∷ []) (sym (m.back t k).2)
  onward-numbers (goes {v = v} k link step rest) = ap₂ ◌∷◌ (sym (m.back v k).2) (onward-numbers rest)

  numbers : {t : ℕ} {d : List ℕ} → Chain h t d → d ≡ map new (map old d)
  numbers (chain {u = u} l anchor rest) = ap₂ ◌∷◌ (sym (m.back u l).2) (onward-numbers rest)

  chain-old : {t : ℕ} {d : List ℕ} → Chain h t d → Chain g (old t) (map old d)
  chain-old (chain {u = u} l anchor rest) =
      chain {u = old u} (m.back u l).0 (back-anchor u l ∙ anchor) (onward-back l rest)

  module _ {t : ℕ} (here : t < g.places) (stays : stay t ≡ true) where
    chain_back : {d : List ℕ} → Chain h (new t) d → Chain g t (map old d)
    chain_back {d} x = rw (m.forth t here stays) at (chain-old x)

    pub from_first : {d : List ℕ} → Chain h (new t) d → (c : List ℕ) × (d ≡ map new c) × Chain g t c
    from_first {d} x = (map old d, numbers x, chain_back x)

  -- the order of chains is kept
  onward-order : {t u : ℕ} {c d : List ℕ} → Onward g t u c → NotLater c d → NotLater (map new c) (map new d)
  onward-order {t} (ends k signer step) (less {b = b} w) = less (m.order t b k (m.signer-stays t k signer) w)
  onward-order (ends k signer step) (same done) = same done
  onward-order (goes {v = v} k link step rest) (less {b = b} w) = less (m.order v b k (m.link_stays v k link) w)
  onward-order (goes k link step rest) (same x) = same (onward-order rest x)

  chain-order : {t : ℕ} {c d : List ℕ} → Chain g t c → NotLater c d → NotLater (map new c) (map new d)
  chain-order (chain {u = u} l anchor rest) (less {b = b} w) = less (m.order u b l (m.anchor-stays u l anchor) w)
  chain-order (chain l anchor rest) (same x) = same (onward-order rest x)

  -- so the best chain is the best chain under the new numbers,
  pub best-renumbered : {t : ℕ} {c : List ℕ} → t < g.places → stay t ≡ true → Best g t c → Best h (new t) (map new c)
  best-renumbered {t} {c} here stays b =
      record {
        good = renumbered b.good;
        least = λ d x. go d x (b.least (map old d) (chain_back here stays x));
      }
    where
      go :
          (d : List ℕ) → Chain h (new t) d → (length c < length (map old d)) ⊎ ((length c ≡ length (map old d)) × NotLater c (map old d))
          → (length (map new c) < length d) ⊎ ((length (map new c) ≡ length d) × NotLater (map new c) d)
      go d x (inl k) = inl (omega (arith, length-map c new, length-map d old))
      go d x (inr (k, l)) =
          let first : NotLater (map new c) (map new (map old d)) = chain-order b.good l in
          inr (omega (arith, length-map c new, length-map d old), rw (← numbers x) at first)

  -- and the other way round
  onward-order-back :
      {t u w : ℕ} {c d : List ℕ} → Onward h t u c → Onward h t w d → NotLater c d → NotLater (map old c) (map old d)
  onward-order-back {t} (ends k signer step) (ends l signing stepping) (less e) = less (m.old-order t t l e)
  onward-order-back {t} (ends k signer step) (goes {v = v} l link stepping rest) (less e) = less (m.old-order t v l e)
  onward-order-back {t} (goes {v = v} k link step rest) (ends l signing stepping) (less e) = less (m.old-order v t l e)
  onward-order-back (goes {v = v} k link step rest) (goes {v = w} l linking stepping others) (less e) = less (m.old-order v w l e)
  onward-order-back (ends k signer step) y (same done) = same done
  onward-order-back (goes k link step rest) (ends l signing stepping) (same done) = same done
  onward-order-back (goes k link step rest) (goes l linking stepping others) (same e) = same (onward-order-back rest others e)

  chain-order-back : {t : ℕ} {c d : List ℕ} → Chain h t c → Chain h t d → NotLater c d → NotLater (map old c) (map old d)
  chain-order-back (chain {u = u} l anchor rest) (chain {u = v} k other others) (less e) = less (m.old-order u v k e)
  chain-order-back (chain l anchor rest) (chain k other others) (same e) = same (onward-order-back rest others e)

  onward-olds : {t u : ℕ} {c : List ℕ} → Onward g t u c → map old (map new c) ≡ c
  onward-olds {t} (ends k signer step) = ap (λ (x : ℕ). x ∷ []) (m.forth t k (m.signer-stays t k signer))
  onward-olds (goes {v = v} k link step rest) = ap₂ ◌∷◌ (m.forth v k (m.link_stays v k link)) (onward-olds rest)

  olds : {t : ℕ} {c : List ℕ} → Chain g t c → map old (map new c) ≡ c
  olds (chain {u = u} l anchor rest) = ap₂ ◌∷◌ (m.forth u l (m.anchor-stays u l anchor)) (onward-olds rest)

  pub best-from-first :
      {t : ℕ} {d : List ℕ} → t < g.places → stay t ≡ true → Best h (new t) d → (c : List ℕ) × (d ≡ map new c) × Best g t c
  best-from-first {t} {d} here stays b = (
    map old d,
    numbers b.good,
    record { good = chain_back here stays b.good; least = λ e x. go e x (b.least (map new e) (renumbered x)) },
  )
    where
      go :
          (e : List ℕ) → Chain g t e → (length d < length (map new e)) ⊎ ((length d ≡ length (map new e)) × NotLater d (map new e))
          → (length (map old d) < length e) ⊎ ((length (map old d) ≡ length e) × NotLater (map old d) e)
      go e x (inl k) = inl (omega (arith, length-map d old, length-map e new))
      go e x (inr (k, l)) =
          let first : NotLater (map old d) (map old (map new e)) = chain-order-back b.good (renumbered x) l in
          inr (omega (arith, length-map d old, length-map e new), rw (olds x) at first)
