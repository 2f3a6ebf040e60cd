-- Making room: the image of the items that stay, with the day and version of the old one, and the verdict table cut to them. Refusals: 5 as
-- reading the image; 1 for the table, the moment; 9 where either output is too short.
use Rattle.refusal.specs.declared.Refusal.{Refusal}
use Rattle.std.specs.Prelude.{ℕ, cond, List, ◌++◌, leb, length, drop, Result, Ok, Err}
use Rattle.refusal.specs.declared.Refusal.TheVariants as refusal
use Rattle.calendar.specs.Days.{real_moment}
use Rattle.image.specs.declared.Opened.{Opened}
use Rattle.image.specs.Answer.{opened_of}
use Rattle.image.specs.Items.{image_bytes}
use Rattle.image.specs.Index.{entry_count, version_in, day_in, items_in}
use Rattle.usable.specs.Table.{table_good}
use Rattle.room.specs.declared.Made.{Made}
use Rattle.room.specs.Kept.{kept, kept_places, cut}

-- the new image and the new table
unfoldable pub room_bytes : ℕ → List ℕ → List ℕ
room_bytes moment s = image_bytes (version_in s) (kept moment (items_in s)) (day_in s)

unfoldable pub room_table : ℕ → List ℕ → List ℕ → List ℕ
room_table moment s table = cut (entry_count s) table (kept_places moment (items_in s))

-- what is told, with so much room in the two outputs
unfoldable pub on_opened : List ℕ → List ℕ → ℕ → ℕ → ℕ → Result Opened Refusal → Result Made Refusal
on_opened s table moment room more (Err refusal) = Err refusal
on_opened s table moment room more (Ok o) =
    cond (table_good o.entries table)
    (cond (real_moment 1950 2099 moment)
    (cond (leb (length (room_bytes moment s)) room)
    (cond (leb (length (room_table moment s table)) more)
    (Ok (record { length = (length (room_bytes moment s)); table_length = (length (room_table moment s table)); entries = (length (kept moment (items_in s))) }))
    (Err refusal.Short))
    (Err refusal.Short))
    (Err refusal.Argument))
    (Err refusal.Argument)

unfoldable pub made_of : List ℕ → List ℕ → ℕ → ℕ → ℕ → Result Made Refusal
made_of s table moment room more = on_opened s table moment room more (opened_of s)

-- an output after the call: what is written and what stood beyond it; as it was on a refusal
unfoldable pub on_made : Result Made Refusal → List ℕ → List ℕ → List ℕ
on_made (Err refusal) new old = old
on_made (Ok m) new old = new ++ drop (length new) old

-- both outputs after the call
unfoldable pub image_out : List ℕ → List ℕ → ℕ → List ℕ → List ℕ → List ℕ
image_out s table moment old more = on_made (made_of s table moment (length old) (length more)) (room_bytes moment s) old

unfoldable pub table_out : List ℕ → List ℕ → ℕ → List ℕ → List ℕ → List ℕ
table_out s table moment old more = on_made (made_of s table moment (length old) (length more)) (room_table moment s table) more
