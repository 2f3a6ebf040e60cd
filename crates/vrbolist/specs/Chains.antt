-- What the C interface tells of a chain. An answer that is refused has length 0 and slots of 255 already.
use Rattle.std.specs.Prelude.{ℕ, ◌≡◌, List}
use Rattle.refusal.specs.Numbers.{number_of, detail_of}
use Rattle.chain.specs.declared.Answer.{Answer}
use Rattle.chain.specs.declared.Outcome.{Outcome}
use Rattle.chain.specs.declared.Outcome.TheVariants.{Shown, Refused}
use Rattle.chain.specs.Answer.{Answered}
use Rattle.vrbolist.specs.declared.chains.ChainAnswer.{ChainAnswer}

unfoldable pub outcome_number : Outcome → ℕ
outcome_number Shown = 0
outcome_number (Refused why) = number_of why

unfoldable pub outcome_detail : Outcome → ℕ
outcome_detail Shown = 0
outcome_detail (Refused why) = detail_of why

unfoldable pub chain_told : Answer → ChainAnswer
chain_told a =
    record {
      number = outcome_number a.outcome;
      detail = outcome_detail a.outcome;
      length = a.length;
      places = a.places;
    }

-- the answer to a question, as it is told
pub data Forwarded (s table : List ℕ) (moment target : ℕ) (r : ChainAnswer) : Type 0 where
  forwarded : (a : Answer) → Answered s table moment target a → r ≡ chain_told a → Forwarded s table moment target r
