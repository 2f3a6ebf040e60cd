-- A good chain place by place; and no place stands in a best chain twice, since what lies between could be cut out, which leaves a
-- shorter good chain.
use Prim.Native.Nat.{ℕ, zero, suc, ◌+◌, ◌<◌, ◌≤◌}
use mathlib.Core.Path.{◌≡◌, refl, ◌∙◌}
use mathlib.Core.Bool.{true}
use mathlib.Core.List.{List, [], ◌∷◌}
use mathlib.Core.Logic.{◌⊎◌, inl, inr, ⊎_elim}
use native.Mathlib.Numerals.{add-one}
use native.Mathlib.Omega.{arith}
use lib.ListN.{length, get_or}
use Rattle.graph.specs.Chains.{Graph, Onward, ends, goes, Chain, chain, Best}
use Rattle.graph.proofs.Cases.{less?, clash}
use Rattle.graph.proofs.Steps.{Apart}
use Rattle.graph.proofs.Targets.{onward-target}

module _ {g : Graph} {t : ℕ} where
  some-place : {u : ℕ} {c : List ℕ} → Onward g t u c → 0 < length c
  some-place (ends l k e) = omega arith
  some-place (goes l k e o) = omega arith

  onward-below : {u : ℕ} {c : List ℕ} → Onward g t u c → (i : ℕ) → i < length c → get_or c i 0 < g.places
  onward-below (ends l k e) zero h = l
  onward-below (ends l k e) (suc i) h = absurd (omega arith)
  onward-below (goes l k e o) zero h = l
  onward-below (goes l k e o) (suc i) h = onward-below o i (omega arith)

  onward-link : {u : ℕ} {c : List ℕ} → Onward g t u c → (i : ℕ) → i + 1 < length c → g.link (get_or c i 0) ≡ true
  onward-link (ends l k e) i h = absurd (omega arith)
  onward-link (goes l k e o) zero h = k
  onward-link (goes l k e o) (suc i) h = onward-link o i (omega arith)

  onward-last : {u : ℕ} {c : List ℕ} → Onward g t u c → (i : ℕ) → i + 1 ≡ length c → get_or c i 0 ≡ t
  onward-last (ends l k e) zero h = refl
  onward-last (ends l k e) (suc i) h = absurd (omega arith)
  onward-last (goes l k e o) zero h = absurd (omega (arith, some-place o))
  onward-last (goes l k e o) (suc i) h = onward-last o i (omega arith)

  onward-step : {u : ℕ} {c : List ℕ} → Onward g t u c → (i : ℕ) → i < length c → g.step (get_or (u ∷ c) i 0) (get_or c i 0) ≡ true
  onward-step (ends l k e) zero h = e
  onward-step (ends l k e) (suc i) h = absurd (omega arith)
  onward-step (goes l k e o) zero h = e
  onward-step (goes l k e o) (suc i) h = onward-step o i (omega arith)

  -- it starts at an anchor, then come links, and it ends at the signer asked for
  pub starts : {c : List ℕ} → Chain g t c → g.anchor (get_or c 0 0) ≡ true
  starts (chain l k o) = k

  pub inner : {c : List ℕ} → Chain g t c → (i : ℕ) → 0 < i → i + 1 < length c → g.link (get_or c i 0) ≡ true
  inner (chain l k o) zero p h = absurd (omega arith)
  inner (chain l k o) (suc i) p h = onward-link o i (omega arith)

  pub last : {c : List ℕ} → Chain g t c → (i : ℕ) → i + 1 ≡ length c → get_or c i 0 ≡ t
  last (chain l k o) zero h = absurd (omega (arith, some-place o))
  last (chain l k o) (suc i) h = onward-last o i (omega arith)

  pub step-by-step : {c : List ℕ} → Chain g t c → (i : ℕ) → i + 1 < length c → g.step (get_or c i 0) (get_or c (i + 1) 0) ≡ true
  step-by-step (chain l k o) i h = rw (add-one i) (onward-step o i (omega arith))

  pub below : {c : List ℕ} → Chain g t c → (i : ℕ) → i < length c → get_or c i 0 < g.places
  below (chain l k o) zero h = l
  below (chain l k o) (suc i) h = onward-below o i (omega arith)

  pub two-places : {c : List ℕ} → Chain g t c → 2 ≤ length c
  two-places (chain l k o) = omega (arith, some-place o)

  -- and what is so of its places and steps is a good chain
  onward-by :
      (u : ℕ) (c : List ℕ) → 0 < length c → ((i : ℕ) → i < length c → get_or c i 0 < g.places)
      → ((i : ℕ) → i + 1 < length c → g.link (get_or c i 0) ≡ true) → ((i : ℕ) → i + 1 ≡ length c → get_or c i 0 ≡ t) → g.signer t ≡ true
      → ((i : ℕ) → i < length c → g.step (get_or (u ∷ c) i 0) (get_or c i 0) ≡ true) → Onward g t u c
  onward-by u [] some inside links ends_at signer steps = absurd (omega arith)
  onward-by u (v ∷ []) some inside links ends_at signer steps =
      let e : v ≡ t = ends_at 0 refl in
      let here : v < g.places = inside 0 (omega arith) in
      let step : g.step u v ≡ true = steps 0 (omega arith) in
      rw e (ends (rw e at here) signer (rw e at step))
  onward-by u (v ∷ w ∷ rest) some inside links ends_at signer steps =
      goes {v = v} (inside 0 (omega arith)) (links 0 (omega arith)) (steps 0 (omega arith))
      (onward-by v (w ∷ rest) (omega arith) (λ i h. inside (suc i) (omega arith)) (λ i h. links (suc i) (omega arith))
      (λ i h. ends_at (suc i) (omega arith)) signer (λ i h. steps (suc i) (omega arith)))

  pub by-places :
      (c : List ℕ) → 2 ≤ length c → ((i : ℕ) → i < length c → get_or c i 0 < g.places) → g.anchor (get_or c 0 0) ≡ true
      → ((i : ℕ) → 0 < i → i + 1 < length c → g.link (get_or c i 0) ≡ true) → ((i : ℕ) → i + 1 ≡ length c → get_or c i 0 ≡ t)
      → g.signer t ≡ true → ((i : ℕ) → i + 1 < length c → g.step (get_or c i 0) (get_or c (i + 1) 0) ≡ true) → Chain g t c
  by-places [] two inside anchor links ends_at signer steps = absurd (omega arith)
  by-places (u ∷ c) two inside anchor links ends_at signer steps =
      chain {u = u} (inside 0 (omega arith)) anchor
      (onward-by u c (omega arith) (λ i h. inside (suc i) (omega arith)) (λ i h. links (suc i) (omega arith) (omega arith))
      (λ i h. ends_at (suc i) (omega arith)) signer (λ i h. rw (add-one i) at (steps i (omega arith))))

  -- the way on from a place of a chain that is not the last
  onward-from : {u : ℕ} {c : List ℕ} → Onward g t u c → (j : ℕ) → j + 1 < length c → (d : List ℕ) × Onward g t (get_or c j 0) d × (length d < length c)
  onward-from (ends l k e) j h = absurd (omega arith)
  onward-from (goes {rest = rest} l k e o) zero h = (rest, o, omega arith)
  onward-from (goes l k e o) (suc j) h = let x = onward-from o j (omega arith) in (x.0, x.1, omega (arith, x.2))

  or-last : {u : ℕ} {c : List ℕ} → Onward g t u c → (j : ℕ) → j < length c → ((d : List ℕ) × Onward g t (get_or c j 0) d × (length d < length c)) ⊎ (get_or c j 0 ≡ t)
  or-last {c = c} o j h = ⊎_elim (λ l. inl (onward-from o j l)) (λ l. inr (onward-last o j (omega arith))) (less? (j + 1) (length c))

  -- a place that stands twice on the way
  cut : {u : ℕ} {c : List ℕ} → Onward g t u c → (i j : ℕ) → i < j → j < length c → get_or c i 0 ≡ get_or c j 0 → (d : List ℕ) × Onward g t u d × (length d < length c)
  cut (ends l k e) i j h m q = absurd (omega arith)
  cut (goes l k e o) i zero h m q = absurd (omega arith)
  cut {u} (goes {v = v} l k e o) zero (suc j) h m q =
      ⊎_elim
      (λ x. (v ∷ x.0, goes {v = v} l k e (rw q x.1), omega (arith, x.2)))
      (λ s. let end = onward-target o in let z : v ≡ t = q ∙ s in (t ∷ [], ends end.0 end.1 (rw z at e), omega (arith, some-place o)))
      (or-last o j (omega arith))
  cut (goes {v = v} l k e o) (suc i) (suc j) h m q =
      let x = cut o i j (omega arith) (omega arith) q in (v ∷ x.0, goes {v = v} l k e x.1, omega (arith, x.2))

  module _ (apart : Apart g) where
    shorter : {c : List ℕ} → Chain g t c → (i j : ℕ) → i < j → j < length c → get_or c i 0 ≡ get_or c j 0 → (d : List ℕ) × Chain g t d × (length d < length c)
    shorter (chain l k o) i zero h m q = absurd (omega arith)
    shorter (chain {u = u} l k o) zero (suc j) h m q =
        ⊎_elim
        (λ x. (u ∷ x.0, chain {u = u} l k (rw q x.1), omega (arith, x.2)))
        (λ s. let z : u ≡ t = q ∙ s in absurd (clash (onward-target o).1 (rw z at (apart.anchors k))))
        (or-last o j (omega arith))
    shorter (chain {u = u} l k o) (suc i) (suc j) h m q =
        let x = cut o i j (omega arith) (omega arith) q in (u ∷ x.0, chain {u = u} l k x.1, omega (arith, x.2))

    pub no-place-twice : {c : List ℕ} → Best g t c → (i j : ℕ) → i < j → j < length c → get_or c i 0 ≡ get_or c j 0 → ⊥
    no-place-twice {c} b i j h m q = let x = shorter b.good i j h m q in go x.0 x.2 (b.least x.0 x.1)
      where
        go : {A : Type 0} (d : List ℕ) → length d < length c → (length c < length d) ⊎ ((length c ≡ length d) × A) → ⊥
        go d l (inl k) = omega arith
        go d l (inr k) = omega (arith, k.0)
