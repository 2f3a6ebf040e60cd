-- What an item tells is told by its kind and its octets: where two lists have these alike at a place, they tell the same of it.
use Prim.Native.Nat.{ℕ}
use mathlib.Core.Path.{◌≡◌}
use mathlib.Core.List.{List}
use Rattle.image.specs.Items.{Item}
use Rattle.usable.specs.Items.{item_at, certificate_at, list_at, part_of}
use Rattle.usable.specs.Usable.{valid, same_country, lists}
use Rattle.usable.specs.Steps.{has_kind, fits}

pub record Alike (items others : List Item) (place : ℕ) : Type 0 where
  pub kind : (item_at items place).kind ≡ (item_at others place).kind
  pub bytes : (item_at items place).bytes ≡ (item_at others place).bytes

module _ {items others : List Item} where
  pub valid_same : (moment : ℕ) {p : ℕ} → Alike items others p → valid items moment p ≡ valid others moment p
  unfolding valid certificate_at
  valid_same moment a = rw (a.kind, a.bytes)

  pub kind-same : (kind : ℕ) {p : ℕ} → Alike items others p → has_kind items kind p ≡ has_kind others kind p
  unfolding has_kind
  kind-same kind a = rw a.kind

  pub country-same : {p crl : ℕ} → Alike items others p → Alike items others crl → same_country items p crl ≡ same_country others p crl
  unfolding same_country certificate_at list_at
  country-same a b = simp (a.kind, a.bytes, b.bytes)

  pub lists-same : {crl p : ℕ} → Alike items others crl → Alike items others p → lists items crl p ≡ lists others crl p
  unfolding lists certificate_at list_at part_of
  lists-same b a = simp (a.kind, a.bytes, b.bytes)

  pub fits-same : {u v : ℕ} → Alike items others u → Alike items others v → fits items u v ≡ fits others u v
  unfolding fits certificate_at part_of
  fits-same a b = simp (a.kind, a.bytes, b.kind, b.bytes)
