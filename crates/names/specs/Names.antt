-- Names: a SEQUENCE of non-empty SETs of SEQUENCE {OID, one element}, and the countryName in one.
use Rattle.std.specs.Prelude.{ℕ, Bool, cond, ◌&&◌, List, [], ◌∷◌, leb, eqb, length, get_or, Option, Some, None}
use Rattle.der.specs.Forms.{Forms}
use Rattle.elements.specs.declared.elements.Element.{Element}
use Rattle.names.specs.declared.Attribute.{Attribute}
use Rattle.names.specs.declared.Attribute.TheVariants.{Country, Other, Misshapen}
use Rattle.names.specs.declared.Seen.{Seen}
use Rattle.names.specs.declared.Seen.TheVariants.{Never, Once, Often}
use Rattle.names.specs.declared.Letters.{Letters}
use Rattle.octets.specs.Alike.{alike}
use Rattle.elements.specs.Elements.{found_at, found_tagged, on_found, inside, contents_of}

-- 2.5.4.6
abbrev pub country_name : List ℕ
country_name = 0x55 ∷ 0x04 ∷ 0x06 ∷ []

-- SEQUENCE {OID, one element}
unfoldable pub attribute_of : Forms → List ℕ → Element → Attribute
attribute_of forms s e =
    cond (eqb e.tag 0x30)
    (on_found (found_tagged forms s e.contents e.end 0x06) Misshapen λ oid.
    on_found (found_at forms s oid.end e.end) Misshapen λ value.
    cond (eqb value.end e.end) (cond (alike (contents_of s oid) country_name) (Country value) Other) Misshapen)
    Misshapen

-- the countryNames seen so far, and one more
unfoldable pub one_more : Seen → Element → Seen
one_more Never value = Once value
one_more (Once first) value = Often
one_more Often value = Often

unfoldable pub attributed : Attribute → Seen → (Seen → Option Seen) → Option Seen
attributed Misshapen seen next = None
attributed Other seen next = next seen
attributed (Country value) seen next = next (one_more seen value)

-- the attributes of a SET
unfoldable pub attributes_of : Forms → List ℕ → List Element → Seen → Option Seen
attributes_of forms s [] seen = Some seen
attributes_of forms s (e ∷ rest) seen = attributed (attribute_of forms s e) seen λ more. attributes_of forms s rest more

-- a SET, which is not empty
unfoldable pub one_set : Forms → List ℕ → Element → Seen → Option Seen
one_set forms s e seen =
    cond (eqb e.tag 0x31) (cond (eqb (length (inside forms s e)) 0) None (attributes_of forms s (inside forms s e) seen)) None

unfoldable pub after_set : Option Seen → (Seen → Option Seen) → Option Seen
after_set None next = None
after_set (Some seen) next = next seen

-- the SETs of a name
unfoldable pub sets_of : Forms → List ℕ → List Element → Seen → Option Seen
sets_of forms s [] seen = Some seen
sets_of forms s (e ∷ rest) seen = after_set (one_set forms s e seen) λ more. sets_of forms s rest more

-- a name: what it holds of countryNames, over all its SETs
unfoldable pub name_of : Forms → List ℕ → Element → Option Seen
name_of forms s e = cond (eqb e.tag 0x30) (sets_of forms s (inside forms s e) Never) None

unfoldable pub is_capital : ℕ → Bool
is_capital o = leb 65 o && leb o 90

-- a PrintableString of two letters A to Z
unfoldable pub letters_in : ℕ → List ℕ → Option Letters
letters_in tag c =
    cond (eqb tag 0x13 && (eqb (length c) 2 && (is_capital (get_or c 0 0) && is_capital (get_or c 1 0))))
    (Some (record { first = (get_or c 0 0); second = (get_or c 1 0) }))
    None

unfoldable pub letters_of : List ℕ → Seen → Option Letters
letters_of s Never = None
letters_of s Often = None
letters_of s (Once value) = letters_in value.tag (contents_of s value)

abbrev pub first_letter : Option Letters → ℕ
first_letter None = 0
first_letter (Some l) = l.first

abbrev pub second_letter : Option Letters → ℕ
second_letter None = 0
second_letter (Some l) = l.second

-- what is to be said of what is no name, and of what a name holds
unfoldable pub on_name : {A : Type 0} → Option Seen → A → (Seen → A) → A
on_name None shapeless next = shapeless
on_name (Some seen) shapeless next = next seen
