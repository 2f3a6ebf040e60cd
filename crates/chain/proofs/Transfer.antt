-- The graph of what is near tells no more than the whole graph, and of the chains that are near no less; so its answer is that of
-- the whole, where each chain is near or longer than the one found.
use Prim.Native.Nat.{ℕ, ◌<◌, ◌≤◌}
use mathlib.Core.Path.{◌≡◌, sym, ◌∙◌}
use mathlib.Core.Bool.{Bool, true, ◌&&◌}
use mathlib.Core.List.{List, [], ◌∷◌}
use mathlib.Core.Logic.{◌⊎◌, inl, inr, ⊎_elim}
use native.Mathlib.Omega.{arith}
use lib.ListN.{length}
use Rattle.graph.specs.declared.Found.{Found}
use Rattle.graph.specs.Chains.{Graph, Onward, ends, goes, Chain, chain}
use Rattle.graph.specs.Answer.{Answered, found, none}
use Rattle.usable.proofs.Booleans.{second, both_true}

-- the same places, of the anchors, links and signers those that are near, and the same steps from an anchor or a link to a link or a
-- signer
pub record Part (near : ℕ → Bool) (g h : Graph) : Type 0 where
  pub places : g.places ≡ h.places
  pub anchor : (u : ℕ) → u < g.places → g.anchor u ≡ (near u && h.anchor u)
  pub link : (u : ℕ) → u < g.places → g.link u ≡ (near u && h.link u)
  pub signer : (u : ℕ) → u < g.places → g.signer u ≡ (near u && h.signer u)
  pub step :
      (u v : ℕ) → u < g.places → v < g.places → (g.anchor u ≡ true) ⊎ (g.link u ≡ true)
      → (g.link v ≡ true) ⊎ (g.signer v ≡ true) → g.step u v ≡ h.step u v

pub data AllNear (near : ℕ → Bool) : List ℕ → Type 0 where
  done : AllNear near []
  more : {v : ℕ} {rest : List ℕ} → near v ≡ true → AllNear near rest → AllNear near (v ∷ rest)

-- each way from an anchor on to the target is near, or a chain is found that is no longer than it
abbrev pub NearOrLonger : (ℕ → Bool) → Graph → ℕ → Found → Type 0
NearOrLonger near h t r =
    (u : ℕ) (c : List ℕ) → u < h.places → h.anchor u ≡ true → Onward h t u c
    → AllNear near (u ∷ c) ⊎ ((r.length ≡ 0 → ⊥) × (r.length ≤ length c))

module _ {near : ℕ → Bool} {g h : Graph} (a : Part near g h) {t : ℕ} where
  outward : {u : ℕ} {c : List ℕ} → u < g.places → (g.anchor u ≡ true) ⊎ (g.link u ≡ true) → Onward g t u c → Onward h t u c
  outward {u} l from (ends m signer step) =
      ends (omega (arith, a.places)) (second (near t) (h.signer t) (sym (a.signer t m) ∙ signer))
      (sym (a.step u t l m from (inr signer)) ∙ step)
  outward {u} l from (goes {v = v} m link step rest) =
      goes {v = v} (omega (arith, a.places)) (second (near v) (h.link v) (sym (a.link v m) ∙ link))
      (sym (a.step u v l m from (inl link)) ∙ step) (outward m (inr link) rest)

  -- a chain of what is near is one of the whole
  pub chain-out : {c : List ℕ} → Chain g t c → Chain h t c
  chain-out (chain {u = u} l anchor rest) =
      chain {u = u} (omega (arith, a.places)) (second (near u) (h.anchor u) (sym (a.anchor u l) ∙ anchor)) (outward l (inl anchor) rest)

  inward :
      {u : ℕ} {c : List ℕ} → u < g.places → (g.anchor u ≡ true) ⊎ (g.link u ≡ true) → AllNear near c → Onward h t u c
      → Onward g t u c
  inward {u} l from (more n done) (ends m signer step) =
      let here : t < g.places = omega (arith, a.places) in
      let is : g.signer t ≡ true = a.signer t here ∙ both_true (near t) (h.signer t) n signer in
      ends here is (a.step u t l here from (inr is) ∙ step)
  inward {u} l from (more n rest-near) (goes {v = v} m link step rest) =
      let here : v < g.places = omega (arith, a.places) in
      let is : g.link v ≡ true = a.link v here ∙ both_true (near v) (h.link v) n link in
      goes {v = v} here is (a.step u v l here from (inl is) ∙ step) (inward here (inr is) rest-near rest)
  inward l from done onward = elim onward [ ]

  -- a chain of the whole that is near is one of what is near
  pub chain-near : {c : List ℕ} → AllNear near c → Chain h t c → Chain g t c
  chain-near (more n others) (chain {u = u} l anchor rest) =
      let here : u < g.places = omega (arith, a.places) in
      let is : g.anchor u ≡ true = a.anchor u here ∙ both_true (near u) (h.anchor u) n anchor in
      chain {u = u} here is (inward here (inl is) others rest)
  chain-near done good = elim good [ ]

  -- a chain of the whole is one of what is near, or longer than the one found
  chain-in :
      (r : Found) {d : List ℕ} → NearOrLonger near h t r → Chain h t d
      → Chain g t d ⊎ ((r.length ≡ 0 → ⊥) × (r.length < length d))
  chain-in r ways (chain {u = u} {rest = c} l anchor rest) =
      ⊎_elim (λ n. inl (chain-near n (chain {u = u} l anchor rest))) (λ k. inr (k.0, omega (arith, k.1))) (ways u c l anchor rest)

  pub answer-out : {r : Found} → NearOrLonger near h t r → Answered g t r → Answered h t r
  answer-out {r} ways (found c b l p) =
      found c
      (record {
        good = chain-out b.good;
        least = λ d e.
            ⊎_elim (λ i. b.least d i) (λ k. inl (omega (arith, l, k.1))) (chain-in r ways e);
      })
      l p
  answer-out {r} ways (none f n) = none (λ c e. ⊎_elim (λ i. f c i) (λ k. k.0 n.empty) (chain-in r ways e)) n
