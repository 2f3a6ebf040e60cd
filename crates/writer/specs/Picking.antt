-- Writing the image of the items that stand at some places of another image, in the order of the places, with its day and version.
-- Refusals: 5 as reading that image; 1 for over 96 places, or one that is not there; 3 for an image over 262,144 octets; 9 for an output
-- without room for it.
use Rattle.refusal.specs.declared.Refusal.{Refusal}
use Rattle.std.specs.Prelude.{ℕ, Bool, cond, List, [], ◌∷◌, leb, ltb, length, Result, Ok, Err}
use Rattle.std.specs.List.{list_all}
use Rattle.refusal.specs.declared.Refusal.TheVariants.{Argument, Limit, Short}
use Rattle.image.specs.declared.Opened.{Opened}
use Rattle.image.specs.Answer.{opened_of}
use Rattle.image.specs.Items.{Item, image_bytes}
use Rattle.image.specs.Index.{version_in, day_in, entry_in, item_at}
use Rattle.writer.specs.Writing.{on_written}

-- the items at the places
unfoldable pub picked : List ℕ → List ℕ → List Item
picked s [] = []
picked s (place ∷ rest) = item_at s (entry_in s place) ∷ picked s rest

-- all places among so many
unfoldable pub inside : ℕ → List ℕ → Bool
inside n places = list_all (λ place. ltb place n) places

unfoldable pub picked_bytes : List ℕ → List ℕ → List ℕ
picked_bytes s places = image_bytes (version_in s) (picked s places) (day_in s)

-- what is told of the image to write, by its length and that of the output
unfoldable pub size_told : ℕ → ℕ → Result ℕ Refusal
size_told size room = cond (leb size 262144) (cond (leb size room) (Ok size) (Err Short)) (Err (Limit 0))

unfoldable pub on_picked : List ℕ → List ℕ → ℕ → Result Opened Refusal → Result ℕ Refusal
on_picked s places room (Err refusal) = Err refusal
on_picked s places room (Ok o) =
    cond (leb (length places) 96)
    (cond (inside o.entries places) (size_told (length (picked_bytes s places)) room) (Err Argument))
    (Err Argument)

unfoldable pub picked_of : List ℕ → List ℕ → ℕ → Result ℕ Refusal
picked_of s places room = on_picked s places room (opened_of s)

-- the output after the call
unfoldable pub picked_out : List ℕ → List ℕ → List ℕ → List ℕ
picked_out s places old = on_written (picked_of s places (length old)) (picked_bytes s places) old
