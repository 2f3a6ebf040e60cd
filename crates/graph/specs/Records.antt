-- The answers for all places at once: a record of 97 octets for each, the length of the chain to it and its 96 slots.
use Rattle.std.specs.Prelude.{ℕ, ◌*◌, ◌<◌, ◌≤◌, ◌≡◌, List, ◌∷◌, length, take, drop}
use Rattle.graph.specs.declared.Found.{Found}
use Rattle.graph.specs.Chains.{Graph}
use Rattle.graph.specs.Answer.{Answered}

-- the record of a place: the answer for it
pub record Recorded (g : Graph) (place : ℕ) (octets : List ℕ) : Type 0 where
  pub single : Found
  pub answers : Answered g place single
  pub same : octets ≡ single.length ∷ single.places

-- the records of so many places, and what stood beyond them
pub record Records (g : Graph) (n : ℕ) (old out : List ℕ) : Type 0 where
  pub each : (p : ℕ) → p < n → Recorded g p (take 97 (drop (97 * p) out))
  pub beyond : drop (97 * n) out ≡ drop (97 * n) old
  pub long : length out ≡ length old

pub data AllRecorded (g : Graph) (old out : List ℕ) : Type 0 where
  -- no room for all records: the output stays
  stays : length old < 97 * g.places → out ≡ old → AllRecorded g old out
  -- all records are written
  written : 97 * g.places ≤ length old → Records g g.places old out → AllRecorded g old out
