-- The issuer's country of an item: its outermost element, the tbs, that one's members up to the issuer, and of the issuer the first SET
-- or all. A certificate that passes reports these letters (`certificate-country` in crate parts).
use Rattle.std.specs.Prelude.{ℕ, List, length, Option, None}
use Rattle.der.specs.Forms.{paper}
use Rattle.elements.specs.declared.elements.Element.{Element}
use Rattle.elements.specs.Elements.{found_tagged, on_found}
use Rattle.names.specs.declared.Letters.{Letters}
use Rattle.names.specs.Country.{country_in}

-- after the version's A0, INTEGER and algorithm
unfoldable pub issuer_of : List ℕ → Element → Option Element
issuer_of s tbs =
    on_found (found_tagged paper s tbs.contents tbs.end 0xA0) None λ explicit.
    on_found (found_tagged paper s explicit.end tbs.end 0x02) None λ serial.
    on_found (found_tagged paper s serial.end tbs.end 0x30) None λ inner.
    found_tagged paper s inner.end tbs.end 0x30

unfoldable pub country_of : List ℕ → Option Letters
country_of s =
    on_found (found_tagged paper s 0 (length s) 0x30) None λ outermost.
    on_found (found_tagged paper s outermost.contents outermost.end 0x30) None λ tbs.
    on_found (issuer_of s tbs) None λ issuer.
    country_in paper s issuer
