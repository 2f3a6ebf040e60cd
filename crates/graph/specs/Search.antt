-- What a search tells at the end: a table marks with anything but 255 the places to which a walk leads. No public promise cites this.
use Rattle.std.specs.Prelude.{ℕ, suc, ◌+◌, ◌*◌, ◌<◌, ◌≤◌, ◌≡◌, Bool, true, false, cond, List, [], ◌∷◌, ◌++◌, eqb, length, get_or}
use Rattle.graph.specs.Chains.{Graph}

-- the steps that a search follows: from outside, which is n, to each anchor; from no signer; to links and to signers
unfoldable pub followed : ℕ → Graph → ℕ → ℕ → Bool
followed n g u v =
    cond (eqb u n) (g.anchor v)
    (cond (g.signer u) false (cond (g.link v) (g.step u v) (cond (g.signer v) (g.step u v) false)))

-- chains of places below 97 as numbers, in which the shorter is the smaller, and of two as long the one that comes first
unfoldable pub rank_from : ℕ → List ℕ → ℕ
rank_from a [] = a
rank_from a (v ∷ p) = rank_from (a * 97 + v + 1) p

abbrev pub rank : List ℕ → ℕ
rank p = rank_from 0 p

-- how many slots of a table are filled
unfoldable pub filled : List ℕ → ℕ
filled [] = 0
filled (x ∷ xs) = cond (eqb x 255) (filled xs) (suc (filled xs))

abbrev pub Reached : List ℕ → ℕ → Type 0
Reached parent v = get_or parent v 0 ≡ 255 → ⊥

pub data Seen (n : ℕ) (parent : List ℕ) (v : ℕ) : Type 0 where
  outside : v ≡ n → Seen n parent v
  place : v < n → Reached parent v → Seen n parent v

-- the distance of a place, which counts the places on its path; that of outside is 0
unfoldable pub distance_of : ℕ → List ℕ → ℕ → ℕ
distance_of n distance v = cond (eqb v n) 0 (get_or distance v 0)

-- a walk from outside to a place: places one after another, each step followed
pub data Walk (n : ℕ) (step : ℕ → ℕ → Bool) : ℕ → List ℕ → Type 0 where
  begun : {v : ℕ} {p : List ℕ} → v ≡ n → p ≡ [] → Walk n step v p
  gone : {u v : ℕ} {p q : List ℕ} → Walk n step u p → v < n → step u v ≡ true → q ≡ p ++ (v ∷ []) → Walk n step v q

-- what a table tells at the end of any search: it marks the places to which a walk leads, and of each there is the first walk
pub record Searched (n : ℕ) (step : ℕ → ℕ → Bool) (table : List ℕ) : Type 0 where
  pub path : ℕ → List ℕ
  pub walks : (v : ℕ) → v < n → Reached table v → Walk n step v (path v)
  pub first : (v : ℕ) (p : List ℕ) → v < n → Walk n step v p → Reached table v × (rank (path v) ≤ rank p)
  pub short : (v : ℕ) → v < n → Reached table v → length (path v) ≤ 96
