-- A CRL counts alike where the same anchors vouch for it; and a usable place stays usable where the same counting CRLs cover it
-- and none of them lists it that did not.
use Prim.Native.Nat.{ℕ, ◌<◌}
use mathlib.Core.Path.{◌≡◌, refl, sym, ap, ◌∙◌}
use mathlib.Core.Bool.{Bool, true, false, ◌&&◌, not}
use mathlib.Core.List.{List}
use borrow.Author.Tests.{eqb-true}
use lib.Dec.{eqb}
use lib.ListN.{length}
use Rattle.image.specs.Items.{Item}
use Rattle.usable.specs.Items.{item_at, list_at, some_place, within}
use Rattle.usable.specs.Usable.{valid, usable_anchor, same_country, counts, lists, speaks_of, usable}
use Rattle.usable.proofs.Booleans.{false-true, and-when}
use Rattle.trust.proofs.Cases.{and-more, some_same, some_more}
use Rattle.trust.proofs.Places.{Alike}

-- an anchor vouches for a CRL
abbrev pub vouches : List Item → (ℕ → ℕ → Bool) → ℕ → ℕ → ℕ → Bool
vouches items verdict moment crl anchor = usable_anchor items moment anchor && (same_country items anchor crl && verdict anchor crl)

-- tests that hold still, of which the last is of what must not be
kept :
    (a b c x y z : Bool) → (a ≡ true → x ≡ true) → (b ≡ true → y ≡ true) → (z ≡ true → c ≡ true) → (a && (b && not c)) ≡ true
    → (x && (y && not z)) ≡ true
kept true true false x y false f g h e = rw (f refl, g refl)
kept true true false x y true f g h e = false-true (h refl)
kept true true true x y z f g h e = false-true e
kept true false c x y z f g h e = false-true e
kept false b c x y z f g h e = false-true e

module _ (items others : List Item) (verdict ruling : ℕ → ℕ → Bool) (moment : ℕ) (many : length items ≡ length others) where
  pub counts_same :
      (crl : ℕ) → Alike items others crl
      → ((item_at items crl).kind ≡ 4 → (a : ℕ) → a < length items → vouches items verdict moment crl a ≡ vouches others ruling moment crl a)
      → counts items verdict moment crl ≡ counts others ruling moment crl
  unfolding counts list_at some_place
  counts_same crl a same =
      let timely : Bool = list_at items crl (λ g. within g.this_update g.next_update moment) in
      rw (← many, ← a.kind, ← a.bytes)
      (and-when (eqb (item_at items crl).kind 4) _ _ λ four.
      ap (λ (b : Bool). timely && b) (some_same (length items) _ _ (same (eqb-true _ _ four))))

  pub usable-kept :
      (p : ℕ) → valid items moment p ≡ valid others moment p
      → ((c : ℕ) → c < length items → speaks_of items verdict moment p c ≡ speaks_of others ruling moment p c)
      → ((c : ℕ) → lists others c p ≡ true → lists items c p ≡ true)
      → usable items verdict moment p ≡ true → usable others ruling moment p ≡ true
  unfolding usable some_place
  usable-kept p same speaking listing e =
      rw (← many)
      (kept _ _ _ _ _ _ (λ v. sym same ∙ v)
      (some_more (length items) _ _ (λ c h s. sym (speaking c h) ∙ s))
      (some_more (length items) _ _ (λ c h. and-more _ _ _ _ (λ s. speaking c h ∙ s) (listing c))) e)
