-- OIDs that have no slot, how they stand in a table, and whether one of them stands twice. No public promise cites this.
use Rattle.std.specs.Prelude.{ℕ, zero, suc, ◌+◌, ◌-◌, ◌*◌, ◌%◌, ◌<◌, ◌≤◌, ◌≡◌, Bool, true, false, cond, ◌||◌, List, [], ◌∷◌, length, get_or, take, drop, Option, Some, None}
use Rattle.der.specs.Forms.{Forms}
use Rattle.octets.specs.Alike.{alike}
use Rattle.elements.specs.declared.elements.Element.{Element}
use Rattle.elements.specs.Elements.{found_at, members_of, contents_of}
use Rattle.extensions.specs.declared.Extension.{Extension}
use Rattle.extensions.specs.declared.rows.Row.{Row}
use Rattle.extensions.specs.declared.stranger.Stranger.{Stranger}
use Rattle.extensions.specs.declared.twice.Round.{Round}
use Rattle.extensions.specs.Extensions.{extension_of, oid_of}

-- whether an OID has none of the first k slots
unfoldable pub slotless : ℕ → List ℕ → Bool
slotless zero o = true
slotless (suc k) o = cond (alike o (oid_of k)) false (slotless k o)

-- the OIDs without a slot, one by one
unfoldable pub strange_oid : List ℕ → Option Extension → List (List ℕ) → List (List ℕ)
strange_oid s None more = more
strange_oid s (Some x) more = cond (slotless 23 (contents_of s x.oid)) (contents_of s x.oid ∷ more) more

unfoldable pub strange_oids : Forms → List ℕ → List Element → List (List ℕ)
strange_oids forms s [] = []
strange_oids forms s (e ∷ rest) = strange_oid s (extension_of forms s e) (strange_oids forms s rest)

unfoldable pub strange_from : Forms → List ℕ → ℕ → ℕ → List (List ℕ)
strange_from forms s from end = strange_oids forms s (members_of forms s from end)

-- the OID of an extension
unfoldable pub own_oid : List ℕ → Option Extension → List ℕ
own_oid s None = []
own_oid s (Some x) = contents_of s x.oid

-- the mark of an OID, a number below 64: OIDs with other marks are not equal
unfoldable pub mark_of : List ℕ → ℕ
mark_of o = (get_or o (length o - 1) 0 + length o % 8 * 8) % 64

-- whether one of them is this one
unfoldable pub is_in : List ℕ → List (List ℕ) → Bool
is_in o [] = false
is_in o (p ∷ rest) = cond (alike p o) true (is_in o rest)

-- whether one stands twice
unfoldable pub twice_in : List (List ℕ) → Bool
twice_in [] = false
twice_in (o ∷ rest) = cond (is_in o rest) true (twice_in rest)

-- the first OID without a slot from `from` on, of the extension at `place`
pub data Ahead (forms : Forms) (s : List ℕ) (from end : ℕ) : Option Stranger → Type 0 where
  met :
      {place next : ℕ} {oid : Element} → from ≤ place → place < next → next ≤ end → strange_from forms s from end ≡ strange_from forms s place end
      → strange_from forms s place end ≡ contents_of s oid ∷ strange_from forms s next end → Ahead forms s from end (Some (record { place = place; next = next; oid = oid }))
  none : strange_from forms s from end ≡ [] → Ahead forms s from end None

-- a member that ends at `next` and has a slot or is no extension
pub record Passed (forms : Forms) (s : List ℕ) (at end next : ℕ) : Type 0 where
  pub e : Element
  pub found : found_at forms s at end ≡ Some e
  pub ends : next ≡ e.end
  pub familiar : (more : List (List ℕ)) → strange_oid s (extension_of forms s e) more ≡ more

-- the number of the last eight octets
unfoldable pub key_from : ℕ → List ℕ → ℕ
key_from key [] = key
key_from key (o ∷ rest) = key_from (key % 0x100000000000000 * 256 + o) rest

-- the OID of a row
unfoldable pub row_oid : List ℕ → Row → List ℕ
row_oid s row = take (row.end - row.start) (drop row.start s)

-- the numbers of a row are those of its OID
pub record Numbered (s : List ℕ) (row : Row) : Type 0 where
  pub last : row.last ≡ key_from 0 (row_oid s row)
  pub first : row.first ≡ key_from 0 (take 8 (row_oid s row))

-- what a round tells of all from `from` on
pub record Compared (forms : Forms) (s : List ℕ) (from end : ℕ) (r : Round) : Type 0 where
  pub is : twice_in (strange_from forms s from end) ≡ (r.twice || twice_in (strange_from forms s r.rest end))
  pub left : r.rest < end → (r.twice ≡ false) × (from < r.rest)
