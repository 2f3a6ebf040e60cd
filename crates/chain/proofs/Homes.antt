-- Items of one country: what passes has the letters of its country, and a good step stays in one.
use Rattle.std.specs.Prelude.{Result, Ok, Err}
use Prim.Native.Nat.{ℕ, ◌<◌}
use mathlib.Core.Path.{◌≡◌, refl, sym, ap₂, ◌∙◌}
use mathlib.Core.Bool.{Bool, true, false, cond, ◌||◌}
use mathlib.Core.List.{List}
use native.Mathlib.Omega.{arith}
use borrow.Author.Tests.{eqb-true, ne_eqb}
use lib.Dec.{eqb}
use Rattle.der.specs.Forms.{paper}
use Rattle.names.proofs.SameNames.{same-letters}
use Rattle.certificate.specs.declared.Fields as certificates
use Rattle.refusal.specs.declared.Refusal.{Refusal}
use Rattle.certificate.specs.declared.Fields.{Fields}
use Rattle.certificate.specs.Answer.{judged_of}
use Rattle.crl.specs.declared.Fields as crls
use Rattle.crl.specs.Answer as lists
use Rattle.octets.proofs.Likeness.{alike_is}
use Rattle.parts.proofs.Issuers.{certificate-country, crl-country, certificate-names}
use Rattle.image.specs.Items.{Item}
use Rattle.usable.specs.Items.{item_at, on_certificate, certificate_at, on_list, list_at, part_of}
use Rattle.usable.specs.Usable.{same_country}
use Rattle.usable.specs.Steps.{has_kind, fits, good_step}
use Rattle.usable.specs.Country.{country_of, is_of, home_of}
use Rattle.usable.proofs.Booleans.{false-true, first, second}

-- the place's item is of the country
abbrev pub home : ℕ → ℕ → List Item → ℕ → Bool
home a b items p = home_of a b (item_at items p)

-- what is asked is the kind and the octets
pub home_same :
    (a b : ℕ) (item : Item) (kind : ℕ) (bytes : List ℕ) → item.kind ≡ kind → item.bytes ≡ bytes
    → home_of a b (record { kind = kind; flags = item.flags; bytes = bytes; first = item.first; second = item.second }) ≡ home_of a b item
unfolding home_of country_of
home_same a b item kind bytes e f = rw (e, f)

-- what a certificate that passes, and a CRL, says of the place it stands at
abbrev pub CertificateAt : List Item → ℕ → certificates.Fields → Type 0
CertificateAt items p f = judged_of (item_at items p).bytes (item_at items p).kind ≡ Ok f

abbrev pub CrlAt : List Item → ℕ → crls.Fields → Type 0
CrlAt items p f = lists.judged_of paper (item_at items p).bytes ≡ Ok f

-- a test that holds is of a certificate, or CRL, that passes
pub certificate-there :
    (items : List Item) (p : ℕ) → (test : certificates.Fields → Bool) → certificate_at items p test ≡ true
    → (f : certificates.Fields) × CertificateAt items p f × (test f ≡ true)
unfolding certificate_at on_certificate
certificate-there items p test e = go (judged_of (item_at items p).bytes (item_at items p).kind) refl e
  where
    go :
        (j : Result Fields Refusal) → judged_of (item_at items p).bytes (item_at items p).kind ≡ j → on_certificate j test ≡ true
        → (f : certificates.Fields) × CertificateAt items p f × (test f ≡ true)
    go (Err why) k t = false-true t
    go (Ok f) k t = (f, k, t)

pub list-there :
    (items : List Item) (p : ℕ) → (test : crls.Fields → Bool) → list_at items p test ≡ true
    → (f : crls.Fields) × CrlAt items p f × (test f ≡ true)
unfolding list_at on_list
list-there items p test e = go (lists.judged_of paper (item_at items p).bytes) refl e
  where
    go :
        (j : Result crls.Fields Refusal) → lists.judged_of paper (item_at items p).bytes ≡ j → on_list j test ≡ true
        → (f : crls.Fields) × CrlAt items p f × (test f ≡ true)
    go (Err why) k t = false-true t
    go (Ok f) k t = (f, k, t)

module _ (a b : ℕ) (items : List Item) where
  -- the country of what passes
  pub certificate-home :
      (p : ℕ) (f : certificates.Fields) → CertificateAt items p f → eqb (item_at items p).kind 4 ≡ false
      → home a b items p ≡ cond (eqb f.first a) (eqb f.second b) false
  unfolding home_of country_of is_of
  certificate-home p f j other = rw (other, certificate-country (item_at items p).bytes (item_at items p).kind f j)

  pub list-home :
      (p : ℕ) (f : crls.Fields) → CrlAt items p f → eqb (item_at items p).kind 4 ≡ true
      → home a b items p ≡ cond (eqb f.first a) (eqb f.second b) false
  unfolding home_of country_of is_of
  list-home p f j four = rw (four, crl-country (item_at items p).bytes f j)

-- a certificate and a CRL of one country are of it both
pub country-same :
    (a b : ℕ) (items : List Item) (p c : ℕ) → eqb (item_at items p).kind 4 ≡ false → eqb (item_at items c).kind 4 ≡ true
    → same_country items p c ≡ true → home a b items c ≡ home a b items p
unfolding same_country
country-same a b items p c other four e =
    let x = certificate-there items p _ e in
    let y = list-there items c _ x.2 in
    let one = eqb-true x.0.first y.0.first (first (eqb x.0.first y.0.first) _ y.2) in
    let two = eqb-true x.0.second y.0.second (second (eqb x.0.first y.0.first) _ y.2) in
    list-home a b items c y.0 y.1 four ∙ ap₂ (λ (m n : ℕ). cond (eqb m a) (eqb n b) false) (sym one) (sym two)
    ∙ sym (certificate-home a b items p x.0 x.1 other)

-- a certificate's issuer that is another's subject has its letters
fits-letters :
    (items : List Item) (u v : ℕ) → fits items u v ≡ true
    → (f : certificates.Fields) × (g : certificates.Fields) × CertificateAt items u f × CertificateAt items v g × (f.first ≡ g.first) × (f.second ≡ g.second)
unfolding fits part_of
fits-letters items u v e =
    let x = certificate-there items u _ e in
    let y = certificate-there items v _ x.2 in
    let l = same-letters (certificate-names (item_at items v).bytes (item_at items v).kind y.0 y.1).0 (certificate-names (item_at items u).bytes (item_at items u).kind x.0 x.1).1 (alike_is _ _ (first _ _ y.2)) in
    (x.0, y.0, x.1, y.1, sym l.0, sym l.1)

-- a certificate is no CRL
pub no-list : (items : List Item) (p k l : ℕ) → k < 4 → l < 4 → (has_kind items k p || has_kind items l p) ≡ true → eqb (item_at items p).kind 4 ≡ false
unfolding has_kind
no-list items p k l x y e = go (eqb (item_at items p).kind k) refl e
  where
    is : (m : ℕ) → m < 4 → eqb (item_at items p).kind m ≡ true → eqb (item_at items p).kind 4 ≡ false
    is m z f = let kind : (item_at items p).kind ≡ m = eqb-true (item_at items p).kind m f in ne_eqb (item_at items p).kind 4 (λ q. omega arith)

    go : (t : Bool) → eqb (item_at items p).kind k ≡ t → (t || eqb (item_at items p).kind l) ≡ true → eqb (item_at items p).kind 4 ≡ false
    go true q f = is k x q
    go false q f = is l y f

-- a good step stays in a country
pub step-home :
    (a b : ℕ) (items : List Item) (verdict : ℕ → ℕ → Bool) (u v : ℕ) → good_step items verdict u v ≡ true
    → home a b items v ≡ true → home a b items u ≡ true
unfolding good_step
step-home a b items verdict u v e h =
    let from = has_kind items 1 u || has_kind items 2 u in
    let to = has_kind items 2 v || has_kind items 3 v in
    let rest = second from _ e in
    let (f, g, jf, jg, x, y) = fits-letters items u v (second (verdict u v) _ (second to _ rest)) in
    let here = no-list items u 1 2 (omega arith) (omega arith) (first from _ e) in
    let there = no-list items v 2 3 (omega arith) (omega arith) (first to _ rest) in
    certificate-home a b items u f jf here ∙ ap₂ (λ (m n : ℕ). cond (eqb m a) (eqb n b) false) x y ∙ sym (certificate-home a b items v g jg there) ∙ h

-- and has verdict 1
pub step-verdict : (items : List Item) (verdict : ℕ → ℕ → Bool) (u v : ℕ) → good_step items verdict u v ≡ true → verdict u v ≡ true
unfolding good_step
step-verdict items verdict u v e =
    first (verdict u v) _
    (second (has_kind items 2 v || has_kind items 3 v) _ (second (has_kind items 1 u || has_kind items 2 u) _ e))
