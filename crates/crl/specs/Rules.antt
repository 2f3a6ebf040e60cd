-- Rules 2 to 8 of the CRL profile, each over the parts that rule 1 found.
use Rattle.std.specs.Prelude.{ℕ, suc, Bool, true, false, cond, ◌&&◌, not, List, [], ◌∷◌, eqb, Option, Some, None, Result, Ok, Err}
use Rattle.refusal.specs.declared.Refusal.{Refusal}
use Rattle.refusal.specs.declared.Refusal.TheVariants.{Profile}
use Rattle.der.specs.Forms.{Forms}
use Rattle.names.specs.declared.Letters.{Letters}
use Rattle.octets.specs.Alike.{alike}
use Rattle.elements.specs.declared.elements.Element.{Element}
use Rattle.elements.specs.Elements.{whole_of, contents_of}
use Rattle.extensions.specs.Extensions.{lookup_of, present, doubled_of, critical_of}
use Rattle.names.specs.Names.{letters_of}
use Rattle.times.specs.Times.{time_of, in_order}
use Rattle.crl.specs.declared.rules.Readings.{Readings}
use Rattle.crl.specs.declared.shapes.Layout.{Layout}

-- what several rules and the answer read, each once: the two times and the letters
unfoldable pub readings_of : List ℕ → Layout → Readings
readings_of s l =
    record { current = time_of s l.current; coming = time_of s l.coming; country = letters_of s l.country }

-- 2: version number 1 (v2)
unfoldable pub rule2 : List ℕ → Layout → Bool
rule2 s l = alike (contents_of s l.version) (1 ∷ [])

-- 3: algorithms equal
unfoldable pub rule3 : List ℕ → Layout → Bool
rule3 s l = alike (whole_of s l.inner) (whole_of s l.outer)

-- 4: issuer country: once, as PrintableString of two letters
unfoldable pub two_letters : Option Letters → Bool
two_letters None = false
two_letters (Some l) = true

unfoldable pub rule4 : Readings → Bool
rule4 r = two_letters r.country

-- 5: all times as they should be; this update not after next update
unfoldable pub rule5 : Layout → Readings → Bool
rule5 l r = in_order r.current r.coming && l.timely

-- 6: the entry list, if there, is not empty
unfoldable pub rule6 : Layout → Bool
rule6 l = not (l.listing.there && eqb l.count 0)

-- authorityKeyIdentifier (2.5.29.35) is there
unfoldable pub key_there : Forms → List ℕ → Element → Bool
key_there forms s extensions = present (lookup_of forms s extensions (0x55 ∷ 0x1D ∷ 0x23 ∷ []))

-- cRLNumber (2.5.29.20) is there
unfoldable pub number_there : Forms → List ℕ → Element → Bool
number_there forms s extensions = present (lookup_of forms s extensions (0x55 ∷ 0x1D ∷ 0x14 ∷ []))

-- 7: no OID twice, authorityKeyIdentifier and cRLNumber there
unfoldable pub rule7 : Forms → List ℕ → Layout → Bool
rule7 forms s l = not (doubled_of forms s l.extensions) && (key_there forms s l.extensions && number_there forms s l.extensions)

-- 8: nothing critical, in entries either
unfoldable pub rule8 : Forms → List ℕ → Layout → Bool
rule8 forms s l = not (critical_of forms s l.extensions false) && l.calm

unfoldable pub rules2to8 : Forms → List ℕ → Layout → Readings → List Bool
rules2to8 forms s l r = rule2 s l ∷ rule3 s l ∷ rule4 r ∷ rule5 l r ∷ rule6 l ∷ rule7 forms s l ∷ rule8 forms s l ∷ []

-- refused for the first that is broken, of rules numbered from `rule` on
unfoldable pub told : ℕ → List Bool → Result (Unit {0}) Refusal
told rule [] = Ok tt
told rule (holds ∷ rest) = cond holds (told (suc rule) rest) (Err (Profile rule))
