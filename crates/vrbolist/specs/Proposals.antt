-- What the C interface tells of a proposed chain.
use Rattle.std.specs.Prelude.{ℕ, ◌≡◌, List, Result, Ok, Err}
use Rattle.refusal.specs.declared.Refusal.{Refusal}
use Rattle.refusal.specs.Numbers.{number_of, detail_of}
use Rattle.chain.specs.Proposal.{Proposed}
use Rattle.vrbolist.specs.declared.told.ToldAnswer.{ToldAnswer}

unfoldable pub proposal_told : Result (Unit {0}) Refusal → ToldAnswer
proposal_told (Ok done) = record { number = 0; detail = 0 }
proposal_told (Err why) = record { number = number_of why; detail = detail_of why }

-- the answer to a proposal, as it is told
pub data Weighed (s table : List ℕ) (moment target : ℕ) (places : List ℕ) (r : ToldAnswer) : Type 0 where
  weighed : (p : Result (Unit {0}) Refusal) → Proposed s table moment target places p → r ≡ proposal_told p → Weighed s table moment target places r
