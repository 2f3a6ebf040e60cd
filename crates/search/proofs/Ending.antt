-- A search ends, whatever the steps: each row has its columns, and there are no more rows than slots. So a table of paths is
-- there for any steps over at most 96 places, with no code run, and no best chain is too long for the slots.
use Prim.Native.Nat.{ℕ, zero, suc, ◌+◌, ◌<◌, ◌≤◌}
use mathlib.Core.Path.{◌≡◌, refl}
use mathlib.Core.Bool.{Bool}
use mathlib.Core.List.{List}
use mathlib.Core.Logic.{inl, inr, ⊎_elim}
use native.Mathlib.Omega.{arith}
use lib.ListN.{length, get_or}
use Rattle.graph.specs.Chains.{Graph, graph_by, Best}
use Rattle.graph.specs.Search.{followed, Searched}
use Rattle.graph.proofs.Cases.{same?, less?, either}
use Rattle.graph.proofs.Steps.{Apart, roles-apart}
use Rattle.graph.proofs.BestFound.{chain-reached, best}
use Rattle.graph.proofs.Targets.{at-most-96, chain-target}
use Rattle.graph.proofs.Theorems.{one-best}
use Rattle.search.specs.Queue.{At}
use Rattle.search.proofs.QueuePaths.{searched}
use Rattle.search.proofs.Turns.{begin, next, finish, row_room, passed, taken}

data Table (n : ℕ) (step : ℕ → ℕ → Bool) : Type 0 where
  table : {marks : List ℕ} → Searched n step marks → Table n step

data Row (n : ℕ) (step : ℕ → ℕ → Bool) (head : ℕ) : Type 0 where
  row : {queue parent distance : List ℕ} {tail : ℕ} → At n step queue parent distance tail head n → Row n step head

module _ {n : ℕ} {step : ℕ → ℕ → Bool} (small : n ≤ 96) where
  whole_row : (k : ℕ) {queue parent distance : List ℕ} {tail head column : ℕ} → n ≡ column + k → At n step queue parent distance tail head column → Row n step head
  whole_row zero {column = column} e a = let f : column ≡ n = omega arith in row (rw f at a)
  whole_row (suc k) {queue} {parent} {distance} {tail} {head} {column} e a =
      let h : column < n = omega arith in
      ⊎_elim
      (λ new. either (step (get_or queue head 0) column)
      (λ good. whole_row k (omega arith) (taken small a refl refl h refl new good))
      (λ bad. whole_row k (omega arith) (passed small a refl refl h (inr bad))))
      (λ old. whole_row k (omega arith) (passed small a refl refl h (inl old)))
      (same? (get_or parent column 0) 255)

  rows : (k : ℕ) {queue parent distance : List ℕ} {tail head : ℕ} → 97 ≤ head + k → At n step queue parent distance tail head 0 → Table n step
  rows zero e a = absurd (omega (arith, row_room small a))
  rows (suc k) {head = head} e a = go (λ queue parent distance tail l b. rows k (omega arith) (next small b l)) (whole_row n (omega arith) a)
    where
      go : ((queue parent distance : List ℕ) (tail : ℕ) → head + 1 < tail → At n step queue parent distance tail head n → Table n step) → Row n step head → Table n step
      go more (row {tail = tail} b) =
          ⊎_elim (λ l. more _ _ _ tail l b) (λ l. table (searched (finish small b (omega (arith, b.within))))) (less? (head + 1) tail)

  some-table : Table n step
  some-table = rows 97 (omega arith) (begin n step small)

-- the best chain fits the slots
pub best-fits : {g : Graph} {t : ℕ} {c : List ℕ} → Apart g → g.places ≤ 96 → Best g t c → length c ≤ 96
best-fits {g} {t} {c} apart small b = go (some-table small)
  where
    go : Table g.places (followed g.places g) → length c ≤ 96
    go (table s) =
        let end = chain-target b.good in
        let reached = (chain-reached refl small apart s b.good).0 in
        rw (one-best b (best refl small apart s end.0 end.1 reached)) (s.short t end.0 reached)

pub best-short : (places : ℕ) (roles : List ℕ) (step : ℕ → ℕ → Bool) {t : ℕ} {c : List ℕ} → Best (graph_by places roles step) t c → length c ≤ 96
best-short places roles step = best-fits (roles-apart places roles step) (at-most-96 places roles step)
