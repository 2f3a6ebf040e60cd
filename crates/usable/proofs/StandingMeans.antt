-- What a row's standing says of its item, case by case of the readings of a row.
use Rattle.std.specs.Prelude.{Ok}
use Prim.Native.Nat.{ℕ, ◌≤◌}
use mathlib.Core.Path.{◌≡◌, refl, ap, sym}
use mathlib.Core.Bool.{Bool, true, false, ◌&&◌}
use native.Mathlib.Omega.{arith}
use borrow.Author.Tests.{eqb-true, eq-eqb, ne_eqb}
use lib.Dec.{eqb}
use Rattle.der.specs.Forms.{paper}
use Rattle.certificate.specs.declared.Fields as certificates
use Rattle.certificate.specs.Answer.{judged_of}
use Rattle.crl.specs.declared.Fields as crls
use Rattle.crl.specs.Answer as lists
use Rattle.image.specs.Items.{Item}
use Rattle.usable.specs.declared.opened.Row.{Row}
use Rattle.usable.specs.Rows.{blank, certificate_told, list_told}
use Rattle.usable.proofs.Booleans.{and-false}
use Rattle.usable.proofs.RowReadings.{valid_of, current_of, anchor_of, Reading, certificate, list, neither}

-- a test that a second and a third follow from
with-true : (a b c : Bool) → (a ≡ true → b ≡ true) → c ≡ true → a ≡ (a && (b && c))
with-true true b c f t = rw (f refl, t)
with-true false b c f t = refl

with-one : (a b : Bool) → b ≡ true → a ≡ (a && b)
with-one true b t = sym t
with-one false b t = refl

module _ {moment : ℕ} {item : Item} {at : ℕ} {there : Bool} {row : Row} where
  -- standing 1 is a usable anchor that is opened
  pub standing-anchor : Reading moment item at there row → eqb row.standing 1 ≡ (there && anchor_of moment item)
  unfolding anchor_of blank
  standing-anchor (certificate f n j v lo hi on h) =
      rw (h, n)
      (with-true (eqb item.kind 1) (eqb item.flags 1) (valid_of moment item)
      (λ k. eq-eqb item.flags 1 (on (eqb-true item.kind 1 k))) v)
  standing-anchor (list f n four j v h) = rw (h, four) (sym (and-false there))
  standing-anchor (neither a b c h) = rw h (sym a)

  -- standings 2 and 3 are those kinds, opened, passing and within their times
  pub standing-signed :
      Reading moment item at there row → (k : ℕ) → 2 ≤ k → k ≤ 3 → eqb row.standing k ≡ (there && (eqb item.kind k && valid_of moment item))
  unfolding blank
  standing-signed (certificate f n j v lo hi on h) k l m = rw (h, n) (with-one (eqb item.kind k) (valid_of moment item) v)
  standing-signed (list f n four j v h) k l m =
      let other : eqb 4 k ≡ false = ne_eqb 4 k (λ z. omega arith) in
      rw (h, four, other) (sym (and-false there))
  standing-signed (neither a b c h) k l m =
      let other : eqb 0 k ≡ false = ne_eqb 0 k (λ z. omega arith) in
      rw (h, other) (sym (b k l m))

  -- standing 4 is a CRL, opened, passing and within its times
  pub standing-list : Reading moment item at there row → eqb row.standing 4 ≡ (there && (eqb item.kind 4 && current_of moment item))
  unfolding blank
  standing-list (certificate f n j v lo hi on h) =
      let other : eqb item.kind 4 ≡ false = ne_eqb item.kind 4 (λ z. omega arith) in
      rw (h, other) (sym (and-false there))
  standing-list (list f n four j v h) = rw (h, n, v, four)
  standing-list (neither a b c h) = rw h (sym c)

  -- the row of a certificate
  pub certificate-row :
      Reading moment item at there row → 1 ≤ row.standing → row.standing ≤ 3
      → (f : certificates.Fields) × (judged_of item.bytes item.kind ≡ Ok f) × (row ≡ certificate_told item at f)
  unfolding blank
  certificate-row (certificate f n j v lo hi on h) l m = (f, j, h)
  certificate-row (list f n four j v h) l m =
      absurd (let z : row.standing ≡ 4 = ap (λ (r : Row). r.standing) h in omega arith)
  certificate-row (neither a b c h) l m =
      absurd (let z : row.standing ≡ 0 = ap (λ (r : Row). r.standing) h in omega arith)

  -- the row of a CRL
  pub list-row :
      Reading moment item at there row → row.standing ≡ 4
      → (f : crls.Fields) × (lists.judged_of paper item.bytes ≡ Ok f) × (row ≡ list_told item at f)
  unfolding blank
  list-row (certificate f n j v lo hi on h) l =
      absurd (let z : row.standing ≡ item.kind = ap (λ (r : Row). r.standing) h in omega arith)
  list-row (list f n four j v h) l = (f, j, h)
  list-row (neither a b c h) l =
      absurd (let z : row.standing ≡ 0 = ap (λ (r : Row). r.standing) h in omega arith)
