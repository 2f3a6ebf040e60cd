-- What is answered of a first image and an update: refused, or the places of both and the update's day; an entry; the bytes of an item.
use Rattle.refusal.specs.declared.Refusal.{Refusal}
use Rattle.std.specs.Prelude.{ℕ, ◌+◌, ◌-◌, true, false, cond, List, [], ltb, take, drop, Result, Ok, Err}
use Rattle.refusal.specs.declared.Refusal.TheVariants as refusal
use Rattle.image.specs.declared.Opened.{Opened}
use Rattle.image.specs.Index.{entry_in}
use Rattle.image.specs.Answer.{opened_of}
use Rattle.pair.specs.declared.Joint.{Joint}
use Rattle.pair.specs.declared.fetching.Held.{Held}

-- behind a first image of n entries: 5 of the update, then 3 for over 96 entries together, then 6 for an earlier day
unfoldable pub on_update : ℕ → ℕ → ℕ → Result Opened Refusal → Result Joint Refusal
on_update n day version (Err refusal) = Err refusal
on_update n day version (Ok o) =
    cond (ltb 96 (n + o.entries)) (Err (refusal.Limit 0))
    (cond (ltb o.day day) (Err refusal.Day)
    (Ok (record { span = (record { places = n + o.entries; own = n; version = version; later = o.version }); day = o.day })))

-- 5 of the first image is told before any of these
unfoldable pub on_first : List ℕ → Result Opened Refusal → Result Joint Refusal
on_first u (Err refusal) = Err refusal
on_first u (Ok o) = on_update o.entries o.day o.version (opened_of u)

unfoldable pub pair_of : List ℕ → List ℕ → Result Joint Refusal
pair_of s u = on_first u (opened_of s)

-- one entry: those refusals, then 1 for a place that neither image has; of which image it is, and as it stands there
unfoldable pub held_at : List ℕ → List ℕ → ℕ → ℕ → Result Held Refusal
held_at s u own place =
    cond (ltb place own) (Ok (record { entry = (entry_in s place); update = false })) (Ok (record { entry = (entry_in u (place - own)); update = true }))

unfoldable pub on_pair : List ℕ → List ℕ → ℕ → Result Joint Refusal → Result Held Refusal
on_pair s u place (Err refusal) = Err refusal
on_pair s u place (Ok j) = cond (ltb place j.span.places) (held_at s u j.span.own place) (Err refusal.Argument)

unfoldable pub held_of : List ℕ → List ℕ → ℕ → Result Held Refusal
held_of s u place = on_pair s u place (pair_of s u)

-- the bytes of an item: a part of the image that holds it, none on a refusal
unfoldable pub bytes_over : List ℕ → List ℕ → Result Held Refusal → List ℕ
bytes_over s u (Err refusal) = []
bytes_over s u (Ok w) = take w.entry.length (drop w.entry.offset (cond w.update u s))

unfoldable pub fetched_of : List ℕ → List ℕ → ℕ → List ℕ
fetched_of s u place = bytes_over s u (held_of s u place)
