-- What the table of any search tells is the best chain: good chains are walks and walks to a signer good chains, so the first of
-- these walks is the first of those chains.
use Prim.Native.Nat.{ℕ, ◌<◌, ◌≤◌}
use mathlib.Core.Path.{◌≡◌, refl, subst}
use mathlib.Core.Bool.{true, false}
use mathlib.Core.List.{List, ◌++◌}
use mathlib.Core.Logic.{⊎_elim}
use native.Mathlib.Omega.{arith}
use lib.ListN.{get_or}
use lib.Seq.{append_snoc}
use Rattle.graph.specs.Chains.{Graph, Onward, ends, goes, Chain, chain, Best}
use Rattle.graph.specs.Search.{followed, rank, Reached, Walk, begun, gone, Searched}
use Rattle.graph.proofs.Cases.{clash}
use Rattle.graph.proofs.Ranks.{Small, no_place, one-more, rank-first}
use Rattle.graph.proofs.Steps.{Apart, opens, opened, to-link, to-signer, stepped}
use Rattle.graph.proofs.Targets.{chain-target}
use Rattle.graph.proofs.Walks.{walk_end}

module _ {g : Graph} {n t : ℕ} (size : g.places ≡ n) (small : n ≤ 96) where
  small-onward : {u : ℕ} {c : List ℕ} → Onward g t u c → Small c
  small-onward (ends l s e) = one-more {v = t} (omega arith) no_place
  small-onward (goes {v = v} l k e o) = one-more {v = v} (omega arith) (small-onward o)

  small-chain : {c : List ℕ} → Chain g t c → Small c
  small-chain (chain {u = u} l a o) = one-more {v = u} (omega arith) (small-onward o)

  module _ (apart : Apart g) where
    -- a chain is a walk
    onward-walk : {u : ℕ} {p c : List ℕ} → Walk n (followed n g) u p → u < n → g.signer u ≡ false → Onward g t u c → Walk n (followed n g) t (p ++ c)
    onward-walk w h f (ends l k e) = gone {v = t} w (omega arith) (to-signer n g h f k e) refl
    onward-walk {p = p} w h f (goes {v = v} {rest = rest} l k e o) =
        subst (λ (q : List ℕ). Walk n (followed n g) t q) (append_snoc p v rest)
        (onward-walk (gone {v = v} w (omega arith) (to-link n g h f k e) refl) (omega arith) (apart.links k) o)

    chain-walk : {c : List ℕ} → Chain g t c → Walk n (followed n g) t c
    chain-walk (chain {u = u} l k o) = onward-walk (gone {v = u} (begun refl refl) (omega arith) (opens n g k) refl) (omega arith) (apart.anchors k) o

    -- a walk, and on from its last place, is a chain
    walk-chain : {u : ℕ} {p c : List ℕ} → Walk n (followed n g) u p → u < n → g.signer u ≡ false → Onward g t u c → Chain g t (p ++ c)
    walk-chain (begun e z) h f o = absurd (omega arith)
    walk-chain {u} (gone {u = w} {p = p} rest l s q) h f o =
        ⊎_elim
        (λ x. rw (q, x.1) (chain {u = u} (omega arith) (opened n g (rw x.0 at s)) o))
        (λ m.
        let y = stepped n g m s in
        let i : g.link u ≡ true = ⊎_elim (λ z. z) (λ z. absurd (clash z f)) y.2 in
        rw (q, append_snoc) (walk-chain rest m y.0 (goes {v = u} (omega arith) i y.1 o)))
        (walk_end rest)

    signer-chain : {p : List ℕ} → Walk n (followed n g) t p → t < n → g.signer t ≡ true → Chain g t p
    signer-chain (begun e z) h f = absurd (omega arith)
    signer-chain (gone rest l s q) h f =
        ⊎_elim
        (λ x. absurd (clash f (apart.anchors (opened n g (rw x.0 at s)))))
        (λ m. let y = stepped n g m s in rw q (walk-chain rest m y.0 (ends (omega arith) f y.1)))
        (walk_end rest)

    module _ {table : List ℕ} (s : Searched n (followed n g) table) where
      -- a chain's end is reached, by a path that is no larger a number
      pub chain-reached : {c : List ℕ} → Chain g t c → Reached table t × (rank (s.path t) ≤ rank c)
      chain-reached {c} d = s.first t c (omega (arith, (chain-target d).0)) (chain-walk d)

      pub best : t < n → g.signer t ≡ true → Reached table t → Best g t (s.path t)
      best h f r =
          record {
            good = signer-chain (s.walks t h r) h f;
            least = λ d c. rank-first (s.path t) (small-chain c) (chain-reached c).1;
          }

      pub no-chain-found : get_or table t 0 ≡ 255 → (c : List ℕ) → Chain g t c → ⊥
      no-chain-found e c d = (chain-reached d).0 e
