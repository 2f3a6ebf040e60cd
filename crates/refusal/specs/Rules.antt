-- The smallest rule broken, of rules numbered one after the other.
use Rattle.std.specs.Prelude.{ℕ, suc, ◌+◌, ◌-◌, ◌≤◌, ◌<◌, Bool, true, false, cond, List, [], ◌∷◌, ◌≡◌, length, get_or}

-- 0 where each holds
unfoldable pub first_broken : ℕ → List Bool → ℕ
first_broken rule [] = 0
first_broken rule (holds ∷ rest) = cond holds (first_broken (suc rule) rest) rule

-- of rules numbered from `first` on, rule k is broken, and each smaller one holds
pub record Smallest (first : ℕ) (rules : List Bool) (k : ℕ) : Type 0 where
  pub numbered : first ≤ k
  pub listed : k < first + length rules
  pub broken : get_or rules (k - first) true ≡ false
  pub smaller : (j : ℕ) → first ≤ j → j < k → get_or rules (j - first) true ≡ true
