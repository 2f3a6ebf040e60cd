-- What the C interface tells of every signer of an image: how many octets the records take, and the records in the output.
use Rattle.std.specs.Prelude.{ℕ, ◌≡◌, List, Result, Ok, Err}
use Rattle.refusal.specs.Numbers.{number_of, detail_of}
use Rattle.refusal.specs.declared.Refusal.{Refusal}
use Rattle.chain.specs.Signers.{AllSigned}
use Rattle.vrbolist.specs.declared.signers.SignersAnswer.{SignersAnswer}

unfoldable pub signers_told : Result ℕ Refusal → SignersAnswer
signers_told (Ok size) = record { number = 0; detail = 0; length = size }
signers_told (Err why) = record { number = number_of why; detail = detail_of why; length = 0 }

-- the answer and the output of the question, as they are told
pub data AllForwarded (s table : List ℕ) (moment : ℕ) (old out : List ℕ) (r : SignersAnswer) : Type 0 where
  forwarded : (a : Result ℕ Refusal) → AllSigned s table moment old out a → r ≡ signers_told a → AllForwarded s table moment old out r
