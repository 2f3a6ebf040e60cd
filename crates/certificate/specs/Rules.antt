-- Rules 2 to 14 of the certificate profile, each over the parts that rule 1 found. Role 1 is an anchor, 2 a link, 3 a DS.
use Rattle.std.specs.Prelude.{ℕ, suc, Bool, true, false, cond, ◌&&◌, not, List, [], ◌∷◌, leb, ltb, eqb, length, get_or, Option, Some, None, Result, Ok, Err}
use Rattle.refusal.specs.declared.Refusal.{Refusal}
use Rattle.refusal.specs.declared.Refusal.TheVariants.{Profile}
use Rattle.der.specs.Forms.{paper}
use Rattle.elements.specs.declared.elements.Element.{Element}
use Rattle.extensions.specs.declared.Extension.{Extension}
use Rattle.names.specs.declared.Letters.{Letters}
use Rattle.octets.specs.Alike.{alike}
use Rattle.elements.specs.Elements.{inside, whole_of, contents_of}
use Rattle.extensions.specs.Extensions.{lookup_of, present, doubled_of, critical_of}
use Rattle.names.specs.Names.{letters_of}
use Rattle.times.specs.Times.{time_of, in_order}
use Rattle.certificate.specs.declared.keys.KeyId.{KeyId}
use Rattle.certificate.specs.declared.keys.KeyId.TheVariants.{Key, Keyless, Misformed}
use Rattle.certificate.specs.declared.rules.Readings.{Readings}
use Rattle.certificate.specs.declared.shapes.Layout.{Layout}
use Rattle.certificate.specs.Keys.{subject_key, authority_key, document_types}

-- what several rules and the answer read, each once: the two times, the letters, the key identifiers
unfoldable pub readings_of : List ℕ → Layout → Readings
readings_of s l =
    record {
      start = time_of s l.start;
      finish = time_of s l.finish;
      issuer = letters_of s l.issuer_country;
      subject = letters_of s l.subject_country;
      own = subject_key s l.extensions;
      authority = authority_key s l.extensions;
    }

-- 2: version number 2 (v3)
unfoldable pub rule2 : List ℕ → Layout → Bool
rule2 s l = alike (contents_of s l.version) (2 ∷ [])

-- 3: serial positive, at most 20 octets; an INTEGER in DER is positive if its first bit is 0 and it is not 00
unfoldable pub serial_good : List ℕ → Bool
serial_good c = leb (length c) 20 && (ltb (get_or c 0 0) 128 && not (alike c (0 ∷ [])))

unfoldable pub rule3 : List ℕ → Layout → Bool
rule3 s l = serial_good (contents_of s l.serial)

-- 4: inner and outer algorithm equal octet by octet
unfoldable pub rule4 : List ℕ → Layout → Bool
rule4 s l = alike (whole_of s l.inner) (whole_of s l.outer)

-- 5: issuer and subject each hold countryName once, as PrintableString of two letters, and the same two
unfoldable pub same_two : Option Letters → Option Letters → Bool
same_two None other = false
same_two (Some l) None = false
same_two (Some l) (Some letters) = eqb l.first letters.first && eqb l.second letters.second

unfoldable pub rule5 : Readings → Bool
rule5 r = same_two r.issuer r.subject

-- 6: neither 81 nor 82 present
unfoldable pub rule6 : Layout → Bool
rule6 l = not l.unique

-- 7: times that are times, start not after end
unfoldable pub rule7 : Readings → Bool
rule7 r = in_order r.start r.finish

-- 8: at least one extension, and no extension OID stands twice
unfoldable pub rule8 : List ℕ → Layout → Bool
rule8 s l = not (eqb (length (inside paper s l.extensions)) 0) && not (doubled_of paper s l.extensions)

-- an extension that is critical and has those contents
unfoldable pub critical_with : List ℕ → List ℕ → Option Extension → Bool
critical_with s octets None = false
critical_with s octets (Some x) = x.critical && alike (contents_of s x.value) octets

-- 9: keyUsage 2.5.29.15 critical, its contents by role
abbrev pub key_usage : List ℕ
key_usage = 0x55 ∷ 0x1D ∷ 0x0F ∷ []

unfoldable pub usage_of : ℕ → List ℕ
usage_of role = cond (eqb role 3) (0x03 ∷ 0x02 ∷ 0x07 ∷ 0x80 ∷ []) (0x03 ∷ 0x02 ∷ 0x01 ∷ 0x06 ∷ [])

unfoldable pub rule9 : List ℕ → Element → ℕ → Bool
rule9 s extensions role = critical_with s (usage_of role) (lookup_of paper s extensions key_usage)

-- 10: basicConstraints 2.5.29.19: critical and as here for anchor and link; absent in a DS
abbrev pub basic_constraints : List ℕ
basic_constraints = 0x55 ∷ 0x1D ∷ 0x13 ∷ []

abbrev pub signing_once : List ℕ
signing_once = 0x30 ∷ 0x06 ∷ 0x01 ∷ 0x01 ∷ 0xFF ∷ 0x02 ∷ 0x01 ∷ 0x00 ∷ []

unfoldable pub constrained : List ℕ → ℕ → Option Extension → Bool
constrained s role constraints = cond (eqb role 3) (not (present constraints)) (critical_with s signing_once constraints)

unfoldable pub rule10 : List ℕ → Element → ℕ → Bool
rule10 s extensions role = constrained s role (lookup_of paper s extensions basic_constraints)

-- 11: subject key identifier in anchor and link, authority key identifier in link and DS; each of its form where it stands
unfoldable pub key_good : Bool → KeyId → Bool
key_good wanted Misformed = false
key_good wanted Keyless = not wanted
key_good wanted (Key at end) = true

unfoldable pub both_keys : KeyId → KeyId → ℕ → Bool
both_keys own authority role = key_good (not (eqb role 3)) own && key_good (not (eqb role 1)) authority

unfoldable pub rule11 : Readings → ℕ → Bool
rule11 r role = both_keys r.own r.authority role

-- 12: 2.5.29.16, .17, .18 and .31 present, not critical
unfoldable pub uncritical : Option Extension → Bool
uncritical None = false
uncritical (Some x) = not x.critical

unfoldable pub rule12 : List ℕ → Element → Bool
rule12 s extensions =
    uncritical (lookup_of paper s extensions (0x55 ∷ 0x1D ∷ 0x10 ∷ []))
    && (uncritical (lookup_of paper s extensions (0x55 ∷ 0x1D ∷ 0x11 ∷ []))
    && (uncritical (lookup_of paper s extensions (0x55 ∷ 0x1D ∷ 0x12 ∷ []))
    && uncritical (lookup_of paper s extensions (0x55 ∷ 0x1D ∷ 0x1F ∷ []))))

-- 13: DS: the document type list
unfoldable pub rule13 : List ℕ → Element → ℕ → Bool
rule13 s extensions role = cond (eqb role 3) (document_types s extensions) true

-- 14: no critical extension but those of rules 9 and 10
unfoldable pub rule14 : List ℕ → Element → Bool
rule14 s extensions = not (critical_of paper s extensions true)

-- rules 2 to 8, and rules 9 to 14
unfoldable pub rules2to8 : List ℕ → Layout → Readings → List Bool
rules2to8 s l r = rule2 s l ∷ rule3 s l ∷ rule4 s l ∷ rule5 r ∷ rule6 l ∷ rule7 r ∷ rule8 s l ∷ []

unfoldable pub rules9to14 : List ℕ → Element → Readings → ℕ → List Bool
rules9to14 s x r role = rule9 s x role ∷ rule10 s x role ∷ rule11 r role ∷ rule12 s x ∷ rule13 s x role ∷ rule14 s x ∷ []

-- refused for the first that is broken, of rules numbered from `rule` on
unfoldable pub told : ℕ → List Bool → Result (Unit {0}) Refusal
told rule [] = Ok tt
told rule (holds ∷ rest) = cond holds (told (suc rule) rest) (Err (Profile rule))
