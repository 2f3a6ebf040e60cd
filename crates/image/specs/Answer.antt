-- What is answered of an image: 5 with the smallest rule broken, or its entries, day and version; an entry; for a wanted day.
use Rattle.refusal.specs.declared.Refusal.{Refusal}
use Rattle.std.specs.Prelude.{ℕ, cond, List, [], ltb, eqb, take, drop, Result, Ok, Err}
use Rattle.refusal.specs.declared.Refusal.TheVariants as refusal
use Rattle.refusal.specs.Rules.{first_broken}
use Rattle.calendar.specs.Days.{real_day}
use Rattle.image.specs.declared.IndexEntry.{IndexEntry}
use Rattle.image.specs.declared.Opened.{Opened}
use Rattle.image.specs.Index.{entry_count, version_in, day_in, entry_in}
use Rattle.image.specs.Rules.{rules}

unfoldable pub graded : ℕ → Result Opened Refusal → Result Opened Refusal
graded rule opened = cond (eqb rule 0) opened (Err (refusal.Image rule))

-- what the trailer tells
abbrev pub trailer_in : List ℕ → Opened
trailer_in s = record { entries = entry_count s; day = day_in s; version = version_in s }

-- an image of some versions
unfoldable pub opened_within : ℕ → ℕ → List ℕ → Result Opened Refusal
opened_within least most s = graded (first_broken 1 (rules least most s)) (Ok (trailer_in s))

-- an image of either version, and of one alone: the other is then 5 with rule 2
abbrev pub opened_of : List ℕ → Result Opened Refusal
opened_of s = opened_within 1 2 s

abbrev pub opened_as : ℕ → List ℕ → Result Opened Refusal
opened_as version s = opened_within version version s

-- with a wanted day: 1 for a day that is not real, then 5, then 6
unfoldable pub on_day : ℕ → Result Opened Refusal → Result Opened Refusal
on_day wanted (Err refusal) = Err refusal
on_day wanted (Ok o) = cond (eqb o.day wanted) (Ok o) (Err refusal.Day)

unfoldable pub opened_for : List ℕ → ℕ → Result Opened Refusal
opened_for s wanted = cond (real_day 1950 2099 wanted) (on_day wanted (opened_of s)) (Err refusal.Argument)

-- one entry: the image's 5, then 1 for a place that is not there
unfoldable pub on_place : ℕ → IndexEntry → Result Opened Refusal → Result IndexEntry Refusal
on_place place entry (Err refusal) = Err refusal
on_place place entry (Ok o) = cond (ltb place o.entries) (Ok entry) (Err refusal.Argument)

unfoldable pub place_of : List ℕ → ℕ → Result IndexEntry Refusal
place_of s place = on_place place (entry_in s place) (opened_of s)

-- the bytes of an item, none on a refusal
unfoldable pub bytes_in : List ℕ → Result IndexEntry Refusal → List ℕ
bytes_in s (Err refusal) = []
bytes_in s (Ok e) = take e.length (drop e.offset s)

unfoldable pub item_of : List ℕ → ℕ → List ℕ
item_of s place = bytes_in s (place_of s place)
