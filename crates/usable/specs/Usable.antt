-- Which items may stand in a chain at a moment. `verdict a b` is the chip's yes for the pair: a signed b.
use Rattle.std.specs.Prelude.{ℕ, Bool, ◌&&◌, not, List, eqb}
use Rattle.der.specs.Forms.{paper}
use Rattle.crl.specs.Listed.{listed_of}
use Rattle.image.specs.Items.{Item}
use Rattle.usable.specs.Items.{item_at, certificate_at, list_at, some_place, within, part_of}

-- passing its profile, and the moment within its times
unfoldable pub valid : List Item → ℕ → ℕ → Bool
valid items moment place = certificate_at items place λ f. within f.start f.end moment

-- an anchor is usable when enabled, passing, and the moment is within its times
unfoldable pub usable_anchor : List Item → ℕ → ℕ → Bool
usable_anchor items moment place =
    eqb (item_at items place).kind 1 && (eqb (item_at items place).flags 1 && valid items moment place)

-- a certificate's letters are those of a CRL's issuer
unfoldable pub same_country : List Item → ℕ → ℕ → Bool
same_country items place crl =
    certificate_at items place λ f. list_at items crl λ g. eqb f.first g.first && eqb f.second g.second

-- a CRL counts when it passes, the moment is from this update to next update, and some usable anchor of its issuer's
-- country has verdict 1 for it
unfoldable pub counts : List Item → (ℕ → ℕ → Bool) → ℕ → ℕ → Bool
counts items verdict moment crl =
    eqb (item_at items crl).kind 4
    && (list_at items crl (λ g. within g.this_update g.next_update moment)
    && some_place items λ a. usable_anchor items moment a && (same_country items a crl && verdict a crl))

-- a CRL covers a certificate when their issuer countries are equal
unfoldable pub covers : List Item → ℕ → ℕ → Bool
covers items crl place = same_country items place crl

-- a CRL lists a certificate's serial
unfoldable pub lists : List Item → ℕ → ℕ → Bool
lists items crl place =
    list_at items crl λ g.
    certificate_at items place λ f.
    listed_of paper (item_at items crl).bytes g.entries_from g.entries_end
    (part_of items place f.serial_at f.serial_len)

-- a counting CRL that covers a certificate
unfoldable pub speaks_of : List Item → (ℕ → ℕ → Bool) → ℕ → ℕ → ℕ → Bool
speaks_of items verdict moment place crl = counts items verdict moment crl && covers items crl place

-- a link or DS is usable when it passes for its kind, the moment is within its times, at least one counting CRL covers it
-- and none covering it lists its serial
unfoldable pub usable : List Item → (ℕ → ℕ → Bool) → ℕ → ℕ → Bool
usable items verdict moment place =
    valid items moment place
    && (some_place items (λ c. speaks_of items verdict moment place c)
    && not (some_place items λ c. speaks_of items verdict moment place c && lists items c place))
