-- What the contract of every search settles: no second answer fits, and an answer has a length where there is a chain.
use Prim.Native.Nat.{ℕ, ◌<◌, ◌-◌}
use mathlib.Core.Path.{◌≡◌, refl, sym, ap, ◌∙◌}
use mathlib.Core.List.{List, ◌∷◌, ◌++◌}
use mathlib.Core.Logic.{◌⊎◌, inl, inr}
use native.Mathlib.Omega.{arith}
use lib.ListN.{length, replicate}
use Rattle.graph.specs.declared.Found.{Found}
use Rattle.graph.specs.Chains.{Graph, Chain, NotLater, done, less, same, Best}
use Rattle.graph.specs.Answer.{Answered, found, none}
use Rattle.graph.proofs.Places.{two-places}

-- of two chains neither of which comes later, both are one
same-chain : {c d e f : List ℕ} → NotLater c d → NotLater e f → d ≡ e → f ≡ c → c ≡ d
same-chain done done p q = refl
same-chain done (less k) p q = cc
same-chain done (same m) p q = cc
same-chain (less h) done p q = cc
same-chain (same l) done p q = cc
same-chain (less {a = a} {b = b} h) (less {a = a'} {b = b'} k) p q =
    let s : b ≡ a' = cc in let t : b' ≡ a = cc in absurd (omega arith)
same-chain (less {a = a} {b = b} h) (same {a = a'} m) p q =
    let s : b ≡ a' = cc in let t : a' ≡ a = cc in absurd (omega arith)
same-chain (same {a = a} l) (less {a = a'} {b = b'} k) p q =
    let s : a ≡ a' = cc in let t : b' ≡ a = cc in absurd (omega arith)
same-chain (same {a = a} {p = x} {q = y} l) (same {a = a'} {p = x'} {q = y'} m) p q =
    let s : y ≡ x' = cc in let t : y' ≡ x = cc in ap (◌∷◌ a) (same-chain l m s t)

module _ {g : Graph} {t : ℕ} where
  -- two best chains are one
  pub one-best : {c d : List ℕ} → Best g t c → Best g t d → c ≡ d
  one-best {c} {d} b e = go (b.least d e.good) (e.least c b.good)
    where
      go : (length c < length d) ⊎ ((length c ≡ length d) × NotLater c d) → (length d < length c) ⊎ ((length d ≡ length c) × NotLater d c) → c ≡ d
      go (inl h) (inl k) = absurd (omega arith)
      go (inl h) (inr k) = absurd (omega (arith, k.0))
      go (inr h) (inl k) = absurd (omega (arith, h.0))
      go (inr h) (inr k) = same-chain h.1 k.1 refl refl

  -- no second answer fits
  pub one_answer : {r q : Found} → Answered g t r → Answered g t q → (r.length ≡ q.length) × (r.places ≡ q.places)
  one_answer (found c b l p) (found d e m q) =
      let s : c ≡ d = one-best b e in
      (l ∙ ap length s ∙ sym m, p ∙ ap (λ (x : List ℕ). x ++ replicate (96 - length x) 255) s ∙ sym q)
  one_answer (found c b l p) (none f m) = absurd (f c b.good)
  one_answer (none f l) (found d e m q) = absurd (f d e.good)
  one_answer (none f l) (none h m) = (l.empty ∙ sym m.empty, l.slots ∙ sym m.slots)

  -- an answer's length is 0 where there is no chain, and only there
  pub found-or-none : {r : Found} → Answered g t r → ((r.length ≡ 0 → ⊥) × ((c : List ℕ) × Chain g t c)) ⊎ ((r.length ≡ 0) × ((c : List ℕ) → Chain g t c → ⊥))
  found-or-none (found c b l p) = inl (λ e. omega (arith, l, two-places b.good), (c, b.good))
  found-or-none (none f l) = inr (l.empty, f)
