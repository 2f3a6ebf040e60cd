-- Which anchors of an image are of a country: the places of the enabled ones whose letters are these, ascending, in 96 slots.
use Rattle.std.specs.Prelude.{ℕ, ◌-◌, Bool, cond, ◌&&◌, List, ◌++◌, eqb, length, replicate, Result, Ok, Err}
use Rattle.refusal.specs.declared.Refusal.{Refusal}
use Rattle.refusal.specs.declared.Refusal.TheVariants as refusal
use Rattle.names.specs.Names.{is_capital}
use Rattle.image.specs.declared.Opened.{Opened}
use Rattle.image.specs.Answer.{opened_of, opened_as}
use Rattle.image.specs.Index.{items_in}
use Rattle.image.specs.Items.{Item}
use Rattle.image.specs.Chosen.{places_from}
use Rattle.letters.specs.declared.telling.Country.{Country}
use Rattle.letters.specs.TrueLetters.{true_letters, spells}
use Rattle.anchors.specs.declared.Listing.{Listing}

-- an anchor that is enabled
unfoldable pub enabled : Item → Bool
enabled item = eqb item.kind 1 && eqb item.flags 1

-- one whose true letters are these: zeros, those of an anchor that fails its profile, are not asked for
unfoldable pub full_for : ℕ → ℕ → Item → Bool
full_for first second item = enabled item && spells first second (true_letters item)

-- the letters that the index tells of an item
unfoldable pub index_letters : Item → Country
index_letters item = record { first = item.first; second = item.second }

-- one whose letters in the index are these
unfoldable pub short_for : ℕ → ℕ → Item → Bool
short_for first second item = enabled item && spells first second (index_letters item)

-- places in slots, unused ones 255
unfoldable pub listed_as : List ℕ → Listing
listed_as places = record { count = length places; places = places ++ replicate (96 - length places) 255 }

unfoldable pub on_opened : (Item → Bool) → List ℕ → Result Opened Refusal → Result Listing Refusal
on_opened test s (Err why) = Err why
on_opened test s (Ok o) = Ok (listed_as (places_from test 0 (items_in s)))

-- 1 for letters outside A to Z, then as opening the image
unfoldable pub listed_of : ℕ → ℕ → (Item → Bool) → List ℕ → Result Opened Refusal → Result Listing Refusal
listed_of first second test s opened = cond (is_capital first && is_capital second) (on_opened test s opened) (Err refusal.Argument)

-- by the letters that anchors report, of an image of either version
unfoldable pub anchors_of : List ℕ → ℕ → ℕ → Result Listing Refusal
anchors_of s first second = listed_of first second (full_for first second) s (opened_of s)

-- by the letters that the index tells, of an image of version 2
unfoldable pub anchors_by_index : List ℕ → ℕ → ℕ → Result Listing Refusal
anchors_by_index s first second = listed_of first second (short_for first second) s (opened_as 2 s)
