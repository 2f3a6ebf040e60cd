-- Good steps between the items of a list.
use Rattle.std.specs.Prelude.{ℕ, Bool, ◌&&◌, ◌||◌, List, eqb}
use Rattle.octets.specs.Alike.{alike}
use Rattle.image.specs.Items.{Item}
use Rattle.usable.specs.Items.{item_at, certificate_at, part_of}

unfoldable pub has_kind : List Item → ℕ → ℕ → Bool
has_kind items kind place = eqb (item_at items place).kind kind

-- v's issuer equals u's subject octet by octet, and v's authority key identifier u's subject key identifier
unfoldable pub fits : List Item → ℕ → ℕ → Bool
fits items u v =
    certificate_at items u λ f.
    certificate_at items v λ g.
    alike (part_of items v g.issuer_at g.issuer_len) (part_of items u f.subject_at f.subject_len)
    && alike (part_of items v g.authority_key_at g.authority_key_len)
    (part_of items u f.subject_key_at f.subject_key_len)

-- a step from u to v is good when u is anchor or link, v is link or DS, the verdict is 1, and names and keys fit
unfoldable pub good_step : List Item → (ℕ → ℕ → Bool) → ℕ → ℕ → Bool
good_step items verdict u v =
    (has_kind items 1 u || has_kind items 2 u)
    && ((has_kind items 2 v || has_kind items 3 v) && (verdict u v && fits items u v))
