-- What a search by rounds knows between two of its steps. Its table has the distance of each place, how many places the shortest
-- path to it has, and 255 where no round has marked it; outside, which is n, has distance 0. No public promise cites this.
use Rattle.std.specs.Prelude.{ℕ, ◌+◌, ◌*◌, ◌<◌, ◌≤◌, ◌≡◌, Bool, true, List, length, get_or}
use Rattle.graph.specs.Search.{filled, Reached, Seen, distance_of}

-- a good step to a place from one that is one nearer
pub record Nearer (n : ℕ) (step : ℕ → ℕ → Bool) (distance : List ℕ) (v : ℕ) : Type 0 where
  pub back : ℕ
  pub seen : Seen n distance back
  pub one : get_or distance v 0 ≡ distance_of n distance back + 1
  pub good : step back v ≡ true

-- the round of the places that are so far, at a column of a row, with so many places new: each place that is marked is one step on
-- from one that is nearer, and all steps before this one are followed, those from nearer places first
pub record InRound (n : ℕ) (step : ℕ → ℕ → Bool) (distance : List ℕ) (far row column new : ℕ) : Type 0 where
  pub slots : length distance ≡ 96
  pub from : (v : ℕ) → v < n → Reached distance v → Nearer n step distance v
  pub near : (v : ℕ) → v < n → Reached distance v → get_or distance v 0 ≤ far + 1
  pub old : new ≡ 0 → (v : ℕ) → v < n → Reached distance v → get_or distance v 0 ≤ far
  pub count : far + new ≤ filled distance
  pub closed :
      (u v : ℕ) → Seen n distance u → v < n → distance_of n distance u * 9409 + u * 97 + v < far * 9409 + row * 97 + column
      → step u v ≡ true → Reached distance v × (get_or distance v 0 ≤ distance_of n distance u + 1)

-- the table at the end: all steps are followed
pub record RoundTable (n : ℕ) (step : ℕ → ℕ → Bool) (distance : List ℕ) : Type 0 where
  pub from : (v : ℕ) → v < n → Reached distance v → Nearer n step distance v
  pub short : (v : ℕ) → v < n → Reached distance v → get_or distance v 0 ≤ 96
  pub closed :
      (u v : ℕ) → Seen n distance u → v < n → step u v ≡ true
      → Reached distance v × (get_or distance v 0 ≤ distance_of n distance u + 1)

-- the target, or a place with a good step to one that is on the ways and one further
pub data Onto (n : ℕ) (step : ℕ → ℕ → Bool) (distance : List ℕ) (target : ℕ) (ways : List ℕ) (v : ℕ) : Type 0 where
  there : v ≡ target → Onto n step distance target ways v
  by :
      (w : ℕ) → w < n → get_or distance v 0 < get_or distance target 0 → get_or ways w 0 ≡ get_or distance v 0 + 1 → step v w ≡ true
      → Onto n step distance target ways v

-- the ways back from the target, before a row of the places that are so far: each place on them leads on to the target, and each
-- that leads to one of them is on them, of those further and of those so far before the row
pub record Back (n : ℕ) (step : ℕ → ℕ → Bool) (distance : List ℕ) (target : ℕ) (ways : List ℕ) (far row : ℕ) : Type 0 where
  pub slots : length ways ≡ 96
  pub told : (v : ℕ) → v < n → Reached ways v → get_or ways v 0 ≡ get_or distance v 0
  pub end : Reached ways target
  pub most : far ≤ get_or distance target 0
  pub onto : (v : ℕ) → v < n → Reached ways v → Onto n step distance target ways v
  pub all :
      (u v : ℕ) → u < n → v < n → far * 97 + u < get_or distance u 0 * 97 + row → Reached ways v
      → get_or ways v 0 ≡ get_or distance u 0 + 1 → step u v ≡ true → Reached ways u

-- the first place with a number on the ways that a good step reaches; n where there is none
pub record Next (n : ℕ) (step : ℕ → ℕ → Bool) (ways : List ℕ) (u far v : ℕ) : Type 0 where
  pub inside : v ≤ n
  pub is : v < n → (get_or ways v 0 ≡ far) × (step u v ≡ true)
  pub first : (w : ℕ) → w < v → get_or ways w 0 ≡ far → step u w ≡ true → ⊥
