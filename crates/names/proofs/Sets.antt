-- The attributes of a SET and the SETs of a name, one by one as they are found.
use Rattle.std.specs.Prelude.{Option, Some, None}
use Prim.Native.Nat.{ℕ}
use mathlib.Core.List.{List, ◌∷◌}
use mathlib.Core.Path.{◌≡◌, ap, ◌∙◌}
use borrow.Author.Tests.{eq-eqb, ne_eqb}
use lib.Dec.{eqb-suc-zero}
use Rattle.der.specs.Forms.{paper}
use Rattle.elements.specs.declared.elements.Element.{Element}
use Rattle.names.specs.declared.Attribute.TheVariants.{Country, Other, Misshapen}
use Rattle.names.specs.declared.Seen.{Seen}
use Rattle.elements.specs.Elements.{found_at, members_of, inside}
use Rattle.names.specs.Names.{attribute_of, one_more, attributed, attributes_of, one_set, after_set, sets_of}
use Rattle.names.specs.declared.fast.Lone.{Lone}
use Rattle.names.specs.Fast.{one_set_more, Alone}
use Rattle.elements.proofs.Members.{members-none, members-more}

-- one attribute, and those after it
module _ (s : List ℕ) (e : Element) (rest : List Element) (seen : Seen) where
  pub attributes-bad : attribute_of paper s e ≡ Misshapen → attributes_of paper s (e ∷ rest) seen ≡ None
  unfolding attributes_of attributed
  attributes-bad h = simp h

  pub attributes-other : attribute_of paper s e ≡ Other → attributes_of paper s (e ∷ rest) seen ≡ attributes_of paper s rest seen
  unfolding attributes_of attributed
  attributes-other h = simp h

  pub attributes-country : {value : Element} → attribute_of paper s e ≡ Country value → attributes_of paper s (e ∷ rest) seen ≡ attributes_of paper s rest (one_more seen value)
  unfolding attributes_of attributed
  attributes-country h = simp h

-- after the last attribute
pub attributes-done : (s : List ℕ) (at end : ℕ) (seen : Seen) → found_at paper s at end ≡ None → attributes_of paper s (members_of paper s at end) seen ≡ Some seen
unfolding attributes_of
attributes-done s at end seen h = rw (members-none s at end h)

module _ (s : List ℕ) (e : Element) (seen : Seen) where
  pub set-not : (e.tag ≡ 0x31 → ⊥) → one_set paper s e seen ≡ None
  unfolding one_set
  set-not h = simp (ne_eqb _ _ h)

  module _ (tag : e.tag ≡ 0x31) where
    pub set-empty : found_at paper s e.contents e.end ≡ None → one_set paper s e seen ≡ None
    unfolding one_set inside
    set-empty h = simp (eq-eqb _ _ tag, members-none s e.contents e.end h)

    pub set-filled : {first : Element} → found_at paper s e.contents e.end ≡ Some first → one_set paper s e seen ≡ attributes_of paper s (first ∷ members_of paper s first.end e.end) seen
    unfolding one_set inside
    set-filled h = simp (eq-eqb _ _ tag, members-more s e.contents e.end h, eqb-suc-zero)

-- one SET, and those after it
module _ (s : List ℕ) (at end : ℕ) (seen : Seen) where
  pub sets-done : found_at paper s at end ≡ None → sets_of paper s (members_of paper s at end) seen ≡ Some seen
  unfolding sets_of
  sets-done h = rw (members-none s at end h)

  module _ {e : Element} (found : found_at paper s at end ≡ Some e) where
    pub sets-bad : one_set paper s e seen ≡ None → sets_of paper s (members_of paper s at end) seen ≡ None
    unfolding sets_of after_set
    sets-bad h = rw (members-more s at end found) (simp h)

    pub sets_more : {more : Seen} → one_set paper s e seen ≡ Some more → sets_of paper s (members_of paper s at end) seen ≡ sets_of paper s (members_of paper s e.end end) more
    unfolding sets_of after_set
    sets_more h = rw (members-more s at end found) (simp h)

  -- a SET that has one attribute
  module _ {r : Lone} (p : Alone s at end r) where
    pub sets-alone :
        {country : Option Element} → r.country ≡ country
        → sets_of paper s (members_of paper s at end) seen ≡ sets_of paper s (members_of paper s r.end end) (one_set_more seen country)
    sets-alone {country} is =
        sets_more p.found (p.holds seen ∙ ap (λ (o : Option Element). Some (one_set_more seen o)) is)
        ∙ ap (λ (n : ℕ). sets_of paper s (members_of paper s n end) (one_set_more seen country)) p.ends
