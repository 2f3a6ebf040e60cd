-- The answer to the question for a chain: the best chain in 96 slots, or that there is none.
use Rattle.std.specs.Prelude.{ℕ, ◌-◌, ◌≡◌, List, ◌++◌, length, replicate}
use Rattle.graph.specs.declared.Found.{Found}
use Rattle.graph.specs.Chains.{Graph, Chain, Best}

-- no chain: length 0, all slots 255
pub record NoChain (r : Found) : Type 0 where
  pub empty : r.length ≡ 0
  pub slots : r.places ≡ replicate 96 255

pub data Answered (g : Graph) (target : ℕ) (r : Found) : Type 0 where
  -- its length and its places, unused slots 255
  found :
      (c : List ℕ) → Best g target c → r.length ≡ length c → r.places ≡ c ++ replicate (96 - length c) 255
      → Answered g target r
  -- no good chain exists
  none : ((c : List ℕ) → Chain g target c → ⊥) → NoChain r → Answered g target r
