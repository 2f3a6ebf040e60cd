-- The country of a name: where its first SET is a countryName in its usual form, nothing is read behind it.
use Rattle.std.specs.Prelude.{ℕ, ◌+◌, Bool, false, cond, List, [], ◌∷◌, ltb, length, take, Option, None}
use Rattle.der.specs.Forms.{Forms}
use Rattle.octets.specs.Alike.{alike}
use Rattle.elements.specs.declared.elements.Element.{Element}
use Rattle.elements.specs.Elements.{contents_of}
use Rattle.names.specs.declared.Seen.TheVariants.{Once}
use Rattle.names.specs.declared.Letters.{Letters}
use Rattle.names.specs.Names.{name_of, letters_of, on_name}

-- SET of SEQUENCE of countryName and a PrintableString of two octets, up to these
abbrev pub usual_set : List ℕ
usual_set = 0x31 ∷ 0x0B ∷ 0x30 ∷ 0x09 ∷ 0x06 ∷ 0x03 ∷ 0x55 ∷ 0x04 ∷ 0x06 ∷ 0x13 ∷ 0x02 ∷ []

unfoldable pub begins : List ℕ → Bool
begins c = cond (ltb (length c) 13) false (alike (take 11 c) usual_set)

-- the PrintableString of such a SET
abbrev pub usual_value : ℕ → Element
usual_value at = record { tag = 0x13; at = at + 9; contents = at + 11; end = at + 13 }

-- The letters of that SET, else those of the whole name. Where a name holds countryName once these are the same.
unfoldable pub country_in : Forms → List ℕ → Element → Option Letters
country_in forms s e =
    cond (begins (contents_of s e)) (letters_of s (Once (usual_value e.contents)))
    (on_name (name_of forms s e) None λ seen. letters_of s seen)
