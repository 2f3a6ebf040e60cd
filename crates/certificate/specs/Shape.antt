-- Rule 1, the shape of a certificate: its parts in order, or that they are not so.
use Rattle.std.specs.Prelude.{ℕ, Bool, cond, not, List, eqb, Option, Some, None}
use Rattle.der.specs.Forms.{paper}
use Rattle.elements.specs.declared.elements.Element.{Element}
use Rattle.elements.specs.Elements.{found_tagged, on_found}
use Rattle.elements.specs.Envelope.{envelope_of, on_envelope}
use Rattle.extensions.specs.Extensions.{extensions_shaped}
use Rattle.names.specs.Names.{name_of, on_name}
use Rattle.elements.specs.Steps.{only_of, past_of}
use Rattle.times.specs.Times.{time_at}
use Rattle.certificate.specs.declared.shapes.Layout.{Layout}
use Rattle.certificate.specs.declared.shapes.Front.{Front}
use Rattle.certificate.specs.declared.shapes.Back.{Back}
use Rattle.certificate.specs.declared.shapes.Validity.{Validity}

unfoldable pub on_validity : Option Validity → (Element → Element → Option Layout) → Option Layout
on_validity None next = None
on_validity (Some v) next = next v.start v.finish

-- a SEQUENCE of two times
unfoldable pub validity_of : List ℕ → Element → Option Validity
validity_of s validity =
    on_found (time_at paper s validity.contents validity.end) None λ start.
    on_found (time_at paper s start.end validity.end) None λ finish.
    cond (eqb finish.end validity.end) (Some (record { start = start; finish = finish })) None

-- the first members of the tbs: A0 around one INTEGER; INTEGER; algorithm SEQUENCE; issuer SEQUENCE; SEQUENCE of times
unfoldable pub front_of : List ℕ → Element → Option Front
front_of s tbs =
    on_found (found_tagged paper s tbs.contents tbs.end 0xA0) None λ explicit.
    on_found (only_of paper s explicit 0x02) None λ version.
    on_found (found_tagged paper s explicit.end tbs.end 0x02) None λ serial.
    on_found (found_tagged paper s serial.end tbs.end 0x30) None λ inner.
    on_found (found_tagged paper s inner.end tbs.end 0x30) None λ issuer.
    on_found (found_tagged paper s issuer.end tbs.end 0x30) None λ validity.
    Some (record { version = version; serial = serial; inner = inner; issuer = issuer; validity = validity })

-- where an 81 and then an 82 end, each if it is there
unfoldable pub unique_end : List ℕ → ℕ → ℕ → ℕ
unique_end s from end = past_of paper s (past_of paper s from end 0x81) end 0x82

-- the last members: subject SEQUENCE; key SEQUENCE; optional 81; optional 82; A3 around one SEQUENCE
unfoldable pub back_of : List ℕ → ℕ → ℕ → Option Back
back_of s from end =
    on_found (found_tagged paper s from end 0x30) None λ subject.
    on_found (found_tagged paper s subject.end end 0x30) None λ key.
    on_found (found_tagged paper s (unique_end s key.end end) end 0xA3) None λ last.
    cond (eqb last.end end)
    (on_found (only_of paper s last 0x30) None λ extensions.
    Some (record { subject = subject; key = key; unique = (not (eqb (unique_end s key.end end) key.end)); extensions = extensions }))
    None

unfoldable pub on_front : Option Front → (Element → Element → Element → Element → Element → Option Layout) → Option Layout
on_front None next = None
on_front (Some f) next = next f.version f.serial f.inner f.issuer f.validity

unfoldable pub on_back : Option Back → (Element → Element → Bool → Element → Option Layout) → Option Layout
on_back None next = None
on_back (Some b) next = next b.subject b.key b.unique b.extensions

unfoldable pub on_parts : Option Layout → (Layout → Option Layout) → Option Layout
on_parts None next = None
on_parts (Some l) next = next l

-- SEQUENCE of tbs, algorithm, BIT STRING; the tbs's members in order; names of their shape
unfoldable pub parts_of : List ℕ → Option Layout
parts_of s =
    on_envelope (envelope_of paper s) None λ tbs outer.
    on_front (front_of s tbs) λ version serial inner issuer validity.
    on_validity (validity_of s validity) λ start finish.
    on_back (back_of s validity.end tbs.end) λ subject key unique extensions.
    on_name (name_of paper s issuer) None λ issuer_country.
    on_name (name_of paper s subject) None λ subject_country.
    Some (record {
      version = version;
      serial = serial;
      inner = inner;
      outer = outer;
      issuer = issuer;
      start = start;
      finish = finish;
      subject = subject;
      key = key;
      unique = unique;
      extensions = extensions;
      issuer_country = issuer_country;
      subject_country = subject_country;
    })

-- rule 1: these parts, and extensions of their shape
unfoldable pub layout_of : List ℕ → Option Layout
layout_of s = on_parts (parts_of s) λ l. cond (extensions_shaped paper s l.extensions) (Some l) None
