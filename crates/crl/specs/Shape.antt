-- CRL rule 1, the shape: tbs holds INTEGER, algorithm, issuer, time, time, optional SEQUENCE of entries, A0 around one
-- SEQUENCE of extensions.
use Rattle.std.specs.Prelude.{ℕ, Bool, true, false, cond, List, eqb, Option, Some, None}
use Rattle.der.specs.Forms.{Forms}
use Rattle.elements.specs.declared.elements.Element.{Element}
use Rattle.elements.specs.Elements.{found_tagged, on_found}
use Rattle.elements.specs.Envelope.{envelope_of, on_envelope}
use Rattle.extensions.specs.Extensions.{extensions_shaped}
use Rattle.names.specs.Names.{name_of, on_name}
use Rattle.elements.specs.Steps.{only_of}
use Rattle.times.specs.Times.{time_at}
use Rattle.crl.specs.declared.entries.Survey.{Survey}
use Rattle.crl.specs.declared.shapes.Front.{Front}
use Rattle.crl.specs.declared.shapes.Layout.{Layout}
use Rattle.crl.specs.declared.shapes.Listing.{Listing}
use Rattle.crl.specs.Entries.{survey_of}

-- where the entry list stands, if it is there: its contents' start and end, and the offset after it
unfoldable pub listing_of : ℕ → Option Element → Listing
listing_of from None = record { there = false; from = 0; end = 0; after = from }
listing_of from (Some e) = record { there = true; from = e.contents; end = e.end; after = e.end }

unfoldable pub on_survey : Option Survey → (ℕ → Bool → Bool → Option Layout) → Option Layout
on_survey None next = None
on_survey (Some v) next = next v.count v.timely v.calm

-- the first members of the tbs: INTEGER, algorithm, issuer, time, time
unfoldable pub front_of : Forms → List ℕ → Element → Option Front
front_of forms s tbs =
    on_found (found_tagged forms s tbs.contents tbs.end 0x02) None λ version.
    on_found (found_tagged forms s version.end tbs.end 0x30) None λ inner.
    on_found (found_tagged forms s inner.end tbs.end 0x30) None λ issuer.
    on_found (time_at forms s issuer.end tbs.end) None λ current.
    on_found (time_at forms s current.end tbs.end) None λ coming.
    Some (record { version = version; inner = inner; issuer = issuer; current = current; coming = coming })

-- the last: A0 around one SEQUENCE
unfoldable pub last_of : Forms → List ℕ → ℕ → ℕ → Option Element
last_of forms s from end =
    on_found (found_tagged forms s from end 0xA0) None λ last. cond (eqb last.end end) (only_of forms s last 0x30) None

unfoldable pub on_front : Option Front → (Element → Element → Element → Element → Element → Option Layout) → Option Layout
on_front None next = None
on_front (Some f) next = next f.version f.inner f.issuer f.current f.coming

unfoldable pub on_parts : Option Layout → (Layout → Option Layout) → Option Layout
on_parts None next = None
on_parts (Some l) next = next l

-- SEQUENCE of tbs, algorithm, BIT STRING; between the first members and the last an entry list may stand
unfoldable pub parts_of : Forms → List ℕ → Option Layout
parts_of forms s =
    on_envelope (envelope_of forms s) None λ tbs outer.
    on_front (front_of forms s tbs) λ version inner issuer current coming.
    on_name (name_of forms s issuer) None λ country.
    let listing = listing_of coming.end (found_tagged forms s coming.end tbs.end 0x30) in
    on_found (last_of forms s listing.after tbs.end) None λ extensions.
    on_survey (survey_of forms s listing.from listing.end) λ count timely calm.
    Some (record {
      version = version;
      inner = inner;
      outer = outer;
      issuer = issuer;
      country = country;
      current = current;
      coming = coming;
      listing = listing;
      extensions = extensions;
      count = count;
      timely = timely;
      calm = calm;
    })

-- rule 1: these parts, and extensions of their shape
unfoldable pub layout_of : Forms → List ℕ → Option Layout
layout_of forms s = on_parts (parts_of forms s) λ l. cond (extensions_shaped forms s l.extensions) (Some l) None
