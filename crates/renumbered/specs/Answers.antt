-- The answers of two calls for one signer, before and after room was made: the same chain under new numbers, or 7 in both.
use Rattle.std.specs.Prelude.{ℕ, ◌<◌, ◌≡◌, true, List, map, length}
use Rattle.refusal.specs.declared.Refusal.TheVariants as refusal
use Rattle.image.specs.Items.{Item}
use Rattle.usable.specs.Items.{item_at}
use Rattle.chain.specs.declared.Answer.{Answer}
use Rattle.chain.specs.Answer.{Without, With}
use Rattle.room.specs.Kept.{stays, new_place}

-- a place of the list whose item stays
pub record Stays (moment : ℕ) (items : List Item) (place : ℕ) : Type 0 where
  pub inside : place < length items
  pub kept : stays moment (item_at items place) ≡ true

pub data Renumbered (moment : ℕ) (items : List Item) (r q : Answer) : Type 0 where
  -- both show a chain: as long, and each of its places by its new number
  shown : (c : List ℕ) → With c r → With (map (new_place moment items) c) q → Renumbered moment items r q
  -- both refuse with 7
  seven : Without refusal.Chain r → Without refusal.Chain q → Renumbered moment items r q
