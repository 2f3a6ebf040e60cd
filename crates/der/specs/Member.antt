-- One step through the members of an element: the element that starts at `from`, in a list that ends at `end`.
use Rattle.std.specs.Prelude.{ℕ, ◌+◌, ◌-◌, cond, List, leb, length, take, drop, Option, Some, None}
use Rattle.der.specs.declared.heading.Heading.{Heading}
use Rattle.der.specs.declared.stepping.Step.{Step}
use Rattle.der.specs.Forms.{Forms}
use Rattle.der.specs.Heading.{heading_of}

-- the header at `from`, its contents and its end told by their offsets
unfoldable pub placed : ℕ → Option Heading → Option Step
placed from None = None
placed from (Some h) = Some (record { tag = h.tag; contents = (from + h.skip); end = (from + h.skip + h.size) })

unfoldable pub member_of : Forms → List ℕ → ℕ → ℕ → Option Step
member_of forms s from end =
    cond (leb from end)
    (cond (leb end (length s)) (placed from (heading_of forms (take (end - from) (drop from s)))) None)
    None
