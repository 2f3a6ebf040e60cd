-- Extensions: SEQUENCE {OID, optional BOOLEAN which is then TRUE, OCTET STRING}.
use Rattle.std.specs.Prelude.{ℕ, ◌+◌, ◌<◌, ◌≡◌, Bool, true, false, cond, ◌&&◌, ◌||◌, not, List, [], ◌∷◌, eqb, ltb, get_or, Option, Some, None}
use Rattle.der.specs.Forms.{Forms}
use Rattle.elements.specs.declared.elements.Element.{Element}
use Rattle.extensions.specs.declared.Extension.{Extension}
use Rattle.extensions.specs.declared.Held.{Held}
use Rattle.extensions.specs.declared.Overview.{Overview}
use Rattle.octets.specs.Alike.{alike}
use Rattle.elements.specs.Elements.{found_at, found_tagged, with_tag, on_found, inside, contents_of}

-- the OCTET STRING, which is the last
unfoldable pub holding_of : Element → Element → Bool → Option Element → Option Extension
holding_of extension oid critical next =
    on_found (with_tag 0x04 next) None λ value. cond (eqb value.end extension.end) (Some (record { oid = oid; critical = critical; value = value })) None

-- an extension, or `Absent` for what is none; a BOOLEAN after the OID is TRUE and marks it as critical
unfoldable pub extension_of : Forms → List ℕ → Element → Option Extension
extension_of forms s e =
    cond (eqb e.tag 0x30)
    (on_found (found_tagged forms s e.contents e.end 0x06) None λ oid.
    on_found (found_at forms s oid.end e.end) None λ next.
    cond (eqb next.tag 0x01)
    (cond (eqb (get_or s next.contents 0) 255) (holding_of e oid true (found_at forms s next.end e.end)) None)
    (holding_of e oid false (Some next)))
    None

unfoldable pub present : Option Extension → Bool
present (Some x) = true
present None = false

-- all of them are extensions
unfoldable pub all_shaped : Forms → List ℕ → List Element → Bool
all_shaped forms s [] = true
all_shaped forms s (e ∷ rest) = cond (present (extension_of forms s e)) (all_shaped forms s rest) false

-- a SEQUENCE of extensions
unfoldable pub extensions_shaped : Forms → List ℕ → Element → Bool
extensions_shaped forms s e = cond (eqb e.tag 0x30) (all_shaped forms s (inside forms s e)) false

unfoldable pub has_oid : List ℕ → List ℕ → Option Extension → Bool
has_oid s oid (Some x) = alike (contents_of s x.oid) oid
has_oid s oid None = false

-- the first of them with that OID
unfoldable pub first_with : Forms → List ℕ → List ℕ → List Element → Option Extension
first_with forms s oid [] = None
first_with forms s oid (e ∷ rest) = cond (has_oid s oid (extension_of forms s e)) (extension_of forms s e) (first_with forms s oid rest)

unfoldable pub lookup_of : Forms → List ℕ → Element → List ℕ → Option Extension
lookup_of forms s extensions oid = first_with forms s oid (inside forms s extensions)

-- the OIDs that have a slot: 2.5.29.14 to 2.5.29.35 in slots 0 to 21, the document type list in slot 22
unfoldable pub oid_of : ℕ → List ℕ
oid_of k =
    cond (ltb k 22) (0x55 ∷ 0x1D ∷ (k + 14) ∷ []) (0x67 ∷ 0x81 ∷ 0x08 ∷ 0x01 ∷ 0x01 ∷ 0x06 ∷ 0x02 ∷ [])

-- an extension has the slot of its OID; what is none has slot 24
pub record Slotted (s : List ℕ) (extension : Option Extension) (slot : ℕ) : Type 0 where
  pub there : present extension ≡ not (eqb slot 24)
  pub each : (k : ℕ) → k < 23 → eqb slot k ≡ has_oid s (oid_of k) extension

-- what is held of an extension: whether it is critical, where the contents of its value start and end
unfoldable pub held_of : Option Extension → Option Held
held_of None = None
held_of (Some x) = Some (record { critical = x.critical; start = x.value.contents; end = x.value.end })

-- each slot holds the first extension with its OID
pub record Placed (forms : Forms) (s : List ℕ) (extensions : Element) (slots : List (Option Held)) : Type 0 where
  pub each : (k : ℕ) → k < 23 → get_or slots k (held_of None) ≡ held_of (lookup_of forms s extensions (oid_of k))

-- whether two extensions have one OID
unfoldable pub same_oids : List ℕ → Option Extension → Option Extension → Bool
same_oids s None other = false
same_oids s (Some x) other = has_oid s (contents_of s x.oid) other

-- whether one of them has the OID of this one
unfoldable pub stands_in : Forms → List ℕ → Option Extension → List Element → Bool
stands_in forms s extension [] = false
stands_in forms s extension (e ∷ rest) = cond (same_oids s extension (extension_of forms s e)) true (stands_in forms s extension rest)

-- whether some OID stands twice
unfoldable pub doubled_in : Forms → List ℕ → List Element → Bool
doubled_in forms s [] = false
doubled_in forms s (e ∷ rest) = cond (stands_in forms s (extension_of forms s e) rest) true (doubled_in forms s rest)

unfoldable pub doubled_of : Forms → List ℕ → Element → Bool
doubled_of forms s extensions = doubled_in forms s (inside forms s extensions)

-- keyUsage 2.5.29.15 and basicConstraints 2.5.29.19
unfoldable pub usual : List ℕ → Element → Bool
usual s oid =
    alike (contents_of s oid) (0x55 ∷ 0x1D ∷ 0x0F ∷ []) || alike (contents_of s oid) (0x55 ∷ 0x1D ∷ 0x13 ∷ [])

-- critical; where `allow` is true keyUsage and basicConstraints are let pass
unfoldable pub refused_critical : List ℕ → Bool → Option Extension → Bool
refused_critical s allow None = false
refused_critical s allow (Some x) = x.critical && not (allow && usual s x.oid)

unfoldable pub some_critical : Forms → List ℕ → Bool → List Element → Bool
some_critical forms s allow [] = false
some_critical forms s allow (e ∷ rest) = cond (refused_critical s allow (extension_of forms s e)) true (some_critical forms s allow rest)

unfoldable pub critical_of : Forms → List ℕ → Element → Bool → Bool
critical_of forms s extensions allow = some_critical forms s allow (inside forms s extensions)

-- what one pass over the extensions tells
pub record Viewed (forms : Forms) (s : List ℕ) (extensions : Element) (o : Overview) : Type 0 where
  pub shaped : o.shaped ≡ extensions_shaped forms s extensions
  pub marked : o.marked ≡ critical_of forms s extensions false
  pub critical : o.critical ≡ critical_of forms s extensions true
  pub doubled : o.doubled ≡ doubled_of forms s extensions
  pub placed : Placed forms s extensions o.slots
