-- The elements that stand in a stretch of a walked item, from one offset to another.
use Rattle.std.specs.Prelude.{ℕ, zero, suc, ◌-◌, cond, List, [], ◌∷◌, eqb, length, take, drop, Option, Some, None}
use Rattle.der.specs.declared.stepping.Step.{Step}
use Rattle.der.specs.Forms.{Forms}
use Rattle.der.specs.Member.{member_of}
use Rattle.elements.specs.declared.elements.Element.{Element}

unfoldable pub stepped : ℕ → Option Step → Option Element
stepped from (Some m) = Some (record { tag = m.tag; at = from; contents = m.contents; end = m.end })
stepped from None = None

-- the element that starts at `from`, before `end`
unfoldable pub found_at : Forms → List ℕ → ℕ → ℕ → Option Element
found_at forms s from end = stepped from (member_of forms s from end)

unfoldable pub with_tag : ℕ → Option Element → Option Element
with_tag tag (Some e) = cond (eqb e.tag tag) (Some e) None
with_tag tag None = None

-- the same, if it has the tag
unfoldable pub found_tagged : Forms → List ℕ → ℕ → ℕ → ℕ → Option Element
found_tagged forms s from end tag = with_tag tag (found_at forms s from end)

-- what is to be said where an element is missing, and of one that is there
unfoldable pub on_found : {A : Type 0} → Option Element → A → (Element → A) → A
on_found None missing next = missing
on_found (Some e) missing next = next e

unfoldable pub members_in : Forms → ℕ → List ℕ → ℕ → ℕ → List Element
members_in forms zero s from end = []
members_in forms (suc fuel) s from end = on_found (found_at forms s from end) [] λ e. e ∷ members_in forms fuel s e.end end

-- the elements from `from` on, one after the other, before `end`; there are no more than octets
unfoldable pub members_of : Forms → List ℕ → ℕ → ℕ → List Element
members_of forms s from end = members_in forms (length s) s from end

-- the members of an element
unfoldable pub inside : Forms → List ℕ → Element → List Element
inside forms s e = members_of forms s e.contents e.end

-- the octets of an element, whole and without its header
unfoldable pub whole_of : List ℕ → Element → List ℕ
whole_of s e = take (e.end - e.at) (drop e.at s)

unfoldable pub contents_of : List ℕ → Element → List ℕ
contents_of s e = take (e.end - e.contents) (drop e.contents s)
