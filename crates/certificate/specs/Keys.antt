-- Key identifiers (rule 11) and the document type list (rule 13), inside the extensions that hold them.
use Rattle.std.specs.Prelude.{ℕ, Bool, true, false, cond, ◌&&◌, not, List, [], ◌∷◌, leb, eqb, length, Option, Some, None, Result, Ok, Err}
use Rattle.refusal.specs.declared.Refusal.{Refusal}
use Rattle.der.specs.Forms.{paper}
use Rattle.der.specs.Walk.{walk_of}
use Rattle.elements.specs.declared.elements.Element.{Element}
use Rattle.extensions.specs.declared.Extension.{Extension}
use Rattle.octets.specs.Alike.{alike}
use Rattle.elements.specs.Elements.{found_tagged, on_found, inside, contents_of}
use Rattle.extensions.specs.Extensions.{lookup_of}
use Rattle.certificate.specs.declared.keys.KeyId.{KeyId}
use Rattle.certificate.specs.declared.keys.KeyId.TheVariants.{Key, Keyless, Misformed}

-- 2.5.29.14, 2.5.29.35 and the document type list
abbrev pub subject_key_identifier : List ℕ
subject_key_identifier = 0x55 ∷ 0x1D ∷ 0x0E ∷ []

abbrev pub authority_key_identifier : List ℕ
authority_key_identifier = 0x55 ∷ 0x1D ∷ 0x23 ∷ []

abbrev pub document_type_list : List ℕ
document_type_list = 0x67 ∷ 0x81 ∷ 0x08 ∷ 0x01 ∷ 0x01 ∷ 0x06 ∷ 0x02 ∷ []

-- an extension's contents pass the walk by themselves
unfoldable pub passes : Result ℕ Refusal → Bool
passes (Ok count) = true
passes (Err refusal) = false

unfoldable pub walks : List ℕ → Element → Bool
walks s value = passes (walk_of paper (contents_of s value))

-- a key identifier is not critical, its contents pass the walk, and it has its form
unfoldable pub key_in : List ℕ → Option Extension → (Element → KeyId) → KeyId
key_in s None form = Keyless
key_in s (Some x) form = cond x.critical Misformed (cond (walks s x.value) (form x.value) Misformed)

-- one OCTET STRING
unfoldable pub octet_string : List ℕ → Element → KeyId
octet_string s value =
    on_found (found_tagged paper s value.contents value.end 0x04) Misformed λ key. Key key.contents key.end

-- a SEQUENCE whose first member is tag 80
unfoldable pub first_of : List ℕ → Element → KeyId
first_of s value =
    on_found (found_tagged paper s value.contents value.end 0x30) Misformed λ sequence.
    on_found (found_tagged paper s sequence.contents sequence.end 0x80) Misformed λ key. Key key.contents key.end

unfoldable pub subject_key : List ℕ → Element → KeyId
subject_key s extensions = key_in s (lookup_of paper s extensions subject_key_identifier) (octet_string s)

unfoldable pub authority_key : List ℕ → Element → KeyId
authority_key s extensions = key_in s (lookup_of paper s extensions authority_key_identifier) (first_of s)

-- PrintableStrings of 1 or 2 octets
unfoldable pub types_good : List ℕ → List Element → Bool
types_good s [] = true
types_good s (e ∷ rest) =
    cond (eqb e.tag 0x13 && (leb 1 (length (contents_of s e)) && leb (length (contents_of s e)) 2)) (types_good s rest) false

-- one or more of them
unfoldable pub types_in : List ℕ → Element → Bool
types_in s types = not (eqb (length (inside paper s types)) 0) && types_good s (inside paper s types)

-- SEQUENCE {INTEGER 0, SET of one or more PrintableStrings of 1 or 2 octets}
unfoldable pub list_good : List ℕ → Element → Bool
list_good s value =
    on_found (found_tagged paper s value.contents value.end 0x30) false λ sequence.
    on_found (found_tagged paper s sequence.contents sequence.end 0x02) false λ version.
    on_found (found_tagged paper s version.end sequence.end 0x31) false λ types.
    eqb types.end sequence.end
    && (alike (contents_of s version) (0 ∷ []) && types_in s types)

unfoldable pub documents_in : List ℕ → Option Extension → Bool
documents_in s None = false
documents_in s (Some x) = not x.critical && (walks s x.value && list_good s x.value)

unfoldable pub document_types : List ℕ → Element → Bool
document_types s extensions = documents_in s (lookup_of paper s extensions document_type_list)
