-- The two statements of the answers of `best_chain` themselves: two calls, each of an image, a table, a moment and a target, that are
-- both good questions. What days and versions the two images have plays no part.
use Rattle.std.specs.Prelude.{ℕ, ◌≤◌, ◌≡◌, List, Ok}
use Rattle.refusal.specs.declared.Refusal.TheVariants as refusal
use Rattle.image.specs.Index.{entry_count, items_in}
use Rattle.usable.specs.Table.{verdict_in}
use Rattle.chain.specs.declared.Answer.{Answer}
use Rattle.chain.specs.declared.Outcome.TheVariants.{Shown, Refused}
use Rattle.chain.specs.Answer.{asked_of, Answered}
use Rattle.trust.specs.Trust.{Question}

-- the question that an image, a table and a moment ask
abbrev pub asks : List ℕ → List ℕ → ℕ → Question
asks s table moment = record { items = items_in s; verdict = verdict_in (entry_count s) table; moment = moment }

-- a call that is a good question, and its answer
pub record Call (s table : List ℕ) (moment target : ℕ) (r : Answer) : Type 0 where
  pub places : ℕ
  pub version : ℕ
  pub good : asked_of s table moment target ≡ Ok (record { places = places; version = version })
  pub answer : Answered s table moment target r

-- if the call before showed a chain, the call after shows one that is not longer
abbrev pub ShownStays : Answer → Answer → Type 0
ShownStays r q = r.outcome ≡ Shown → (q.outcome ≡ Shown) × (q.length ≤ r.length)

-- if the call before was refused with 7, so is the call after
abbrev pub SevenStays : Answer → Answer → Type 0
SevenStays r q = r.outcome ≡ Refused refusal.Chain → q.outcome ≡ Refused refusal.Chain
