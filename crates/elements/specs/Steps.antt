-- Steps that both shapes take: the only member, and an element that may be left out.
use Rattle.std.specs.Prelude.{ℕ, cond, List, eqb, Option, Some, None}
use Rattle.der.specs.Forms.{Forms}
use Rattle.elements.specs.declared.elements.Element.{Element}
use Rattle.elements.specs.Elements.{found_tagged, on_found}

-- the one member of an element, if it has the tag
unfoldable pub only_of : Forms → List ℕ → Element → ℕ → Option Element
only_of forms s e tag =
    on_found (found_tagged forms s e.contents e.end tag) None λ member.
    cond (eqb member.end e.end) (Some member) None

-- where an element with that tag ends, or where it would start if it is left out
unfoldable pub past_of : Forms → List ℕ → ℕ → ℕ → ℕ → ℕ
past_of forms s from end tag = on_found (found_tagged forms s from end tag) from λ e. e.end
