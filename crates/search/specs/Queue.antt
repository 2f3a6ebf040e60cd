-- What the search by a queue knows between two of its steps and at the end: of each place the parent, which is 255 where no path was
-- found, and the distance. No public promise cites this.
use Rattle.std.specs.Prelude.{ℕ, ◌+◌, ◌*◌, ◌<◌, ◌≤◌, ◌≡◌, Bool, true, List, [], ◌∷◌, ◌++◌, length, get_or}
use Rattle.graph.specs.Search.{rank, filled, Reached, Seen}

-- the path to a place is that to its parent, and one good step more, and its distance tells how long it is
pub record Grown (n : ℕ) (step : ℕ → ℕ → Bool) (parent distance : List ℕ) (path : ℕ → List ℕ) (v : ℕ) : Type 0 where
  pub from : Seen n parent (get_or parent v 0)
  pub good : step (get_or parent v 0) v ≡ true
  pub longer : path v ≡ path (get_or parent v 0) ++ (v ∷ [])
  pub far : get_or distance v 0 ≡ length (path v)

-- what the tables of the search by a queue tell: the paths that the parents make, and their lengths
pub record QueueTables (n : ℕ) (step : ℕ → ℕ → Bool) (parent distance : List ℕ) : Type 0 where
  pub path : ℕ → List ℕ
  pub start : path n ≡ []
  pub grows : (v : ℕ) → v < n → Reached parent v → Grown n step parent distance path v
  pub short : (v : ℕ) → v < n → Reached parent v → length (path v) ≤ 96
  pub closed :
      (u v : ℕ) → Seen n parent u → v < n → step u v ≡ true
      → Reached parent v × (rank (path v) ≤ rank (path u) * 97 + v + 1)

-- the search at a column of the row of the queue's head: all steps before are followed, and the queue is in the order of
-- its paths, each before the path to be tried next
pub record At (n : ℕ) (step : ℕ → ℕ → Bool) (queue parent distance : List ℕ) (tail head column : ℕ) : Type 0 where
  pub path : ℕ → List ℕ
  pub start : path n ≡ []
  pub root : get_or queue 0 0 ≡ n
  pub slots : length parent ≡ 96
  pub distances : length distance ≡ 96
  pub room : length queue ≡ 97
  pub count : tail ≡ filled parent + 1
  pub within : head < tail
  pub seen : (j : ℕ) → j < tail → Seen n parent (get_or queue j 0)
  pub short : (j : ℕ) → j < tail → length (path (get_or queue j 0)) ≤ j
  pub queued : (v : ℕ) → v < n → Reached parent v → (j : ℕ) × (j < tail) × (get_or queue j 0 ≡ v)
  pub grows : (v : ℕ) → v < n → Reached parent v → Grown n step parent distance path v
  pub sorted : (i j : ℕ) → i < j → j < tail → rank (path (get_or queue i 0)) < rank (path (get_or queue j 0))
  pub front : (j : ℕ) → j < tail → rank (path (get_or queue j 0)) < rank (path (get_or queue head 0)) * 97 + column + 1
  pub closed :
      (j v : ℕ) → j < tail → v < n → j * 97 + v < head * 97 + column → step (get_or queue j 0) v ≡ true
      → Reached parent v × (rank (path v) ≤ rank (path (get_or queue j 0)) * 97 + v + 1)

-- what a trace back along the parents needs of the tables
pub record Paths (n : ℕ) (parent distance : List ℕ) : Type 0 where
  pub path : ℕ → List ℕ
  pub start : path n ≡ []
  pub from : (v : ℕ) → v < n → Reached parent v → Seen n parent (get_or parent v 0)
  pub longer : (v : ℕ) → v < n → Reached parent v → path v ≡ path (get_or parent v 0) ++ (v ∷ [])
  pub far : (v : ℕ) → v < n → Reached parent v → get_or distance v 0 ≡ length (path v)
  pub short : (v : ℕ) → v < n → Reached parent v → length (path v) ≤ 96
