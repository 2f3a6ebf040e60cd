-- The issuer's country of an item: its outermost element, the tbs, that one's members up to the issuer, and of the issuer the first SET
-- or all. A CRL that passes reports these letters (`crl-country` in crate parts).
use Rattle.std.specs.Prelude.{ℕ, List, length, Option, None}
use Rattle.der.specs.Forms.{Forms}
use Rattle.elements.specs.declared.elements.Element.{Element}
use Rattle.elements.specs.Elements.{found_tagged, on_found}
use Rattle.names.specs.declared.Letters.{Letters}
use Rattle.names.specs.Country.{country_in}

-- after INTEGER and algorithm
unfoldable pub issuer_of : Forms → List ℕ → Element → Option Element
issuer_of forms s tbs =
    on_found (found_tagged forms s tbs.contents tbs.end 0x02) None λ version.
    on_found (found_tagged forms s version.end tbs.end 0x30) None λ inner.
    found_tagged forms s inner.end tbs.end 0x30

unfoldable pub country_of : Forms → List ℕ → Option Letters
country_of forms s =
    on_found (found_tagged forms s 0 (length s) 0x30) None λ outermost.
    on_found (found_tagged forms s outermost.contents outermost.end 0x30) None λ tbs.
    on_found (issuer_of forms s tbs) None λ issuer.
    country_in forms s issuer
