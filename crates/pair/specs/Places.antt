-- The places of two images, a first and an update, read as one: those of the first come first, those of the update follow on. One
-- image by itself is the case of an update without places.
use Rattle.std.specs.Prelude.{ℕ, ◌+◌, ◌-◌, cond, List, ◌++◌, ltb, length, take, drop}
use Rattle.image.specs.declared.IndexEntry.{IndexEntry}
use Rattle.image.specs.Items.{Item}
use Rattle.image.specs.Index.{entry_of, items_in}
use Rattle.pair.specs.declared.Span.{Span}

-- the item list of both
abbrev pub items_over : List ℕ → List ℕ → List Item
items_over s u = items_in s ++ items_in u

-- as many octets as there are from an offset on, which counts over the octets of both: a part lies in one of them
unfoldable pub part_over : List ℕ → List ℕ → ℕ → ℕ → List ℕ
part_over s u from size = cond (ltb from (length s)) (take size (drop from s)) (take size (drop (from - length s) u))

-- an image by itself
unfoldable pub alone : ℕ → ℕ → Span
alone n version = record { places = n; own = n; version = version; later = 0 }

-- an entry whose offset counts from so many octets before
unfoldable pub behind : ℕ → IndexEntry → IndexEntry
behind k e =
    record {
      kind = e.kind;
      flags = e.flags;
      length = e.length;
      offset = k + e.offset;
      first = e.first;
      second = e.second;
    }

-- the entry of a place; its offset counts over the octets of both
unfoldable pub entry_over : Span → List ℕ → List ℕ → ℕ → IndexEntry
entry_over span s u place =
    cond (ltb place span.own) (entry_of span.version s place) (behind (length s) (entry_of span.later u (place - span.own)))
