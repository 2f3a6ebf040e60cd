-- Whether the issuer of an item has the letters of a country, told without judging the item. No promise that a user can call
-- cites this.
use Rattle.std.specs.Prelude.{ℕ, Bool, false, cond, eqb, Option, Some, None}
use Rattle.der.specs.Forms.{paper}
use Rattle.names.specs.declared.Letters.{Letters}
use Rattle.certificate.specs.Country as certificates
use Rattle.crl.specs.Country as lists
use Rattle.image.specs.Items.{Item}

-- the letters of an item's issuer
unfoldable pub country_of : Item → Option Letters
country_of item = cond (eqb item.kind 4) (lists.country_of paper item.bytes) (certificates.country_of item.bytes)

-- whether letters are these two
unfoldable pub is_of : ℕ → ℕ → Option Letters → Bool
is_of first second None = false
is_of first second (Some l) = cond (eqb l.first first) (eqb l.second second) false

unfoldable pub home_of : ℕ → ℕ → Item → Bool
home_of first second item = is_of first second (country_of item)
