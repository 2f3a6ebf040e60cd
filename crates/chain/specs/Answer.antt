-- The question for a chain, and its answer: refused, none, or the best chain in 96 slots.
use Rattle.std.specs.Prelude.{ℕ, ◌-◌, ◌≡◌, cond, List, ◌++◌, ltb, eqb, length, replicate, Result, Ok, Err}
use Rattle.refusal.specs.declared.Refusal.{Refusal}
use Rattle.refusal.specs.declared.Refusal.TheVariants as refusal
use Rattle.calendar.specs.Days.{real_moment}
use Rattle.graph.specs.Chains.{Graph, Chain, Best}
use Rattle.graph.specs.declared.Found.{Found}
use Rattle.image.specs.declared.Opened.{Opened}
use Rattle.image.specs.Answer.{opened_of}
use Rattle.image.specs.Index.{entry_count, entry_in, items_in}
use Rattle.chain.specs.declared.asking.Asked.{Asked}
use Rattle.chain.specs.declared.Answer.{Answer}
use Rattle.chain.specs.declared.Outcome.TheVariants.{Shown, Refused}
use Rattle.chain.specs.Good.{chains}
use Rattle.usable.specs.Table.{verdict_in, table_good}

-- question order: image (5), table, moment, target place exists and is kind 3 (all 1)
unfoldable pub on_image : List ℕ → List ℕ → ℕ → ℕ → Result Opened Refusal → Result Asked Refusal
on_image s table moment target (Err refusal) = Err refusal
on_image s table moment target (Ok o) =
    cond (table_good o.entries table)
    (cond (real_moment 1950 2099 moment)
    (cond (ltb target o.entries) (cond (eqb (entry_in s target).kind 3) (Ok (record { places = o.entries; version = o.version })) (Err refusal.Argument))
    (Err refusal.Argument))
    (Err refusal.Argument))
    (Err refusal.Argument)

unfoldable pub asked_of : List ℕ → List ℕ → ℕ → ℕ → Result Asked Refusal
asked_of s table moment target = on_image s table moment target (opened_of s)

-- the good chains of an image's items
abbrev pub good_chains : List ℕ → List ℕ → ℕ → Graph
good_chains s table moment = chains (items_in s) (verdict_in (entry_count s) table) moment

-- a refusal: length 0, all slots 255
pub record Without (why : Refusal) (r : Answer) : Type 0 where
  pub told : r.outcome ≡ Refused why
  pub empty : r.length ≡ 0
  pub slots : r.places ≡ replicate 96 255

-- a chain: its length and its places, unused slots 255
pub record With (c : List ℕ) (r : Answer) : Type 0 where
  pub told : r.outcome ≡ Shown
  pub many : r.length ≡ length c
  pub slots : r.places ≡ c ++ replicate (96 - length c) 255

-- what is told of the chain that a search found, where one of no places is none
pub data Shows (f : Found) (r : Answer) : Type 0 where
  nothing : f.length ≡ 0 → Without refusal.Chain r → Shows f r
  something : (f.length ≡ 0 → ⊥) → r.outcome ≡ Shown → r.length ≡ f.length → r.places ≡ f.places → Shows f r

pub data Answered (s table : List ℕ) (moment target : ℕ) (r : Answer) : Type 0 where
  -- the question is refused
  refused :
      (why : Refusal) → asked_of s table moment target ≡ Err why → Without why r → Answered s table moment target r
  -- 7: no good chain exists
  none :
      {n version : ℕ} → asked_of s table moment target ≡ Ok (record { places = n; version = version })
      → ((c : List ℕ) → Chain (good_chains s table moment) target c → ⊥) → Without refusal.Chain r
      → Answered s table moment target r
  -- the best of the good chains
  found :
      {n version : ℕ} (c : List ℕ) → asked_of s table moment target ≡ Ok (record { places = n; version = version }) → Best (good_chains s table moment) target c → With c r
      → Answered s table moment target r
