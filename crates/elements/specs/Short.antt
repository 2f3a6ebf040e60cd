-- Where an element ends that has a tag and a length in the short form.
use Rattle.std.specs.Prelude.{ℕ, ◌+◌, cond, List, leb, ltb, eqb, length, get_or, Option, Some, None}

-- the end, within a stretch that ends at `end`
unfoldable pub short_end : List ℕ → ℕ → ℕ → ℕ → Option ℕ
short_end s from end tag =
    cond (leb end (length s))
    (cond (leb (from + 2) end)
    (cond (eqb (get_or s from 0) tag)
    (cond (ltb (get_or s (from + 1) 0) 128)
    (cond (leb (from + 2 + get_or s (from + 1) 0) end) (Some (from + 2 + get_or s (from + 1) 0)) None)
    None)
    None)
    None)
    None
