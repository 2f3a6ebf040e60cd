-- Every signer of an image in one call: a record of 97 octets for each place, what the single question for that place shows.
use Rattle.std.specs.Prelude.{ℕ, ◌*◌, ◌<◌, ◌≡◌, cond, List, ◌∷◌, leb, length, take, drop, Result, Ok, Err}
use Rattle.refusal.specs.declared.Refusal.{Refusal}
use Rattle.refusal.specs.declared.Refusal.TheVariants as refusal
use Rattle.calendar.specs.Days.{real_moment}
use Rattle.image.specs.declared.Opened.{Opened}
use Rattle.image.specs.Answer.{opened_of}
use Rattle.usable.specs.Table.{table_good}
use Rattle.chain.specs.declared.Answer.{Answer}
use Rattle.chain.specs.Answer.{Answered}

-- question order: image (5), table, moment (1), then 9 for an output without room for all records
unfoldable pub on_signers : List ℕ → ℕ → ℕ → Result Opened Refusal → Result ℕ Refusal
on_signers table moment room (Err refusal) = Err refusal
on_signers table moment room (Ok o) =
    cond (table_good o.entries table)
    (cond (real_moment 1950 2099 moment) (cond (leb (97 * o.entries) room) (Ok (97 * o.entries)) (Err refusal.Short)) (Err refusal.Argument))
    (Err refusal.Argument)

unfoldable pub signers_of : List ℕ → List ℕ → ℕ → ℕ → Result ℕ Refusal
signers_of s table moment room = on_signers table moment room (opened_of s)

-- the record of a place: length and slots of the single question's answer, which are 0 and 255s where that is refused
pub record Recorded (s table : List ℕ) (moment place : ℕ) (octets : List ℕ) : Type 0 where
  pub single : Answer
  pub answers : Answered s table moment place single
  pub same : octets ≡ single.length ∷ single.places

-- the records of so many places, and what stood beyond them
pub record Records (s table : List ℕ) (moment n : ℕ) (old out : List ℕ) : Type 0 where
  pub each : (p : ℕ) → p < n → Recorded s table moment p (take 97 (drop (97 * p) out))
  pub beyond : drop (97 * n) out ≡ drop (97 * n) old
  pub long : length out ≡ length old

pub data AllSigned (s table : List ℕ) (moment : ℕ) (old out : List ℕ) (r : Result ℕ Refusal) : Type 0 where
  -- refused: the output stays
  refused :
      (why : Refusal) → signers_of s table moment (length old) ≡ Err why → r ≡ Err why → out ≡ old
      → AllSigned s table moment old out r
  -- all records are written
  told :
      {n : ℕ} → signers_of s table moment (length old) ≡ Ok (97 * n) → r ≡ Ok (97 * n) → Records s table moment n old out
      → AllSigned s table moment old out r
