-- A row is that of a certificate, that of a CRL, or blank, and each says what its item passed, since a row is made by these tests.
-- A place that is shut has a blank row, whatever its item.
use Rattle.std.specs.Prelude.{Result, Ok, Err}
use Prim.Native.Nat.{ℕ, ◌≤◌}
use mathlib.Core.Path.{◌≡◌, refl}
use mathlib.Core.Bool.{Bool, true, false, cond, ◌&&◌}
use mathlib.Core.List.{List}
use native.Mathlib.Omega.{arith}
use borrow.Author.Tests.{eqb-true, eqb-false, ne_eqb, leb-true}
use lib.Dec.{eqb, leb}
use Rattle.refusal.specs.declared.Refusal.TheVariants.{Argument}
use Rattle.der.specs.Forms.{paper}
use Rattle.der.specs.Walk.{walk_of}
use Rattle.certificate.specs.declared.Fields as certificates
use Rattle.refusal.specs.declared.Refusal.{Refusal}
use Rattle.certificate.specs.declared.Fields.{Fields}
use Rattle.certificate.specs.Answer.{on_walk, profile_of, judged_of}
use Rattle.crl.specs.declared.Fields as crls
use Rattle.crl.specs.Answer as lists
use Rattle.image.specs.Items.{Item}
use Rattle.usable.specs.declared.opened.Row.{Row}
use Rattle.usable.specs.Items.{on_certificate, on_list, within}
use Rattle.usable.specs.Rows.{blank, certificate_told, list_told, certificate_row, list_row, row_of}
use Rattle.usable.proofs.Booleans.{and-false}

-- an item passes as a certificate, or as a CRL, at a moment within its times
unfoldable pub valid_of : ℕ → Item → Bool
valid_of moment item = on_certificate (judged_of item.bytes item.kind) λ f. within f.start f.end moment

unfoldable pub current_of : ℕ → Item → Bool
current_of moment item = on_list (lists.judged_of paper item.bytes) λ f. within f.this_update f.next_update moment

unfoldable pub anchor_of : ℕ → Item → Bool
anchor_of moment item = eqb item.kind 1 && (eqb item.flags 1 && valid_of moment item)

pub data Reading (moment : ℕ) (item : Item) (at : ℕ) (there : Bool) (row : Row) : Type 0 where
  certificate :
      (f : certificates.Fields) → there ≡ true → judged_of item.bytes item.kind ≡ Ok f → valid_of moment item ≡ true → 1 ≤ item.kind → item.kind ≤ 3
      → (item.kind ≡ 1 → item.flags ≡ 1) → row ≡ certificate_told item at f → Reading moment item at there row
  list :
      (f : crls.Fields) → there ≡ true → item.kind ≡ 4 → lists.judged_of paper item.bytes ≡ Ok f → current_of moment item ≡ true
      → row ≡ list_told item at f → Reading moment item at there row
  neither :
      (there && anchor_of moment item) ≡ false → ((k : ℕ) → 2 ≤ k → k ≤ 3 → (there && (eqb item.kind k && valid_of moment item)) ≡ false)
      → (there && (eqb item.kind 4 && current_of moment item)) ≡ false → row ≡ blank → Reading moment item at there row

-- only the roles 1 to 3 pass
role-bounds : (bytes : List ℕ) (k : ℕ) (f : certificates.Fields) → judged_of bytes k ≡ Ok f → (1 ≤ k) × (k ≤ 3)
unfolding judged_of
role-bounds bytes k f e = go (leb 1 k) (leb k 3) refl refl (on_walk (walk_of paper bytes) (profile_of bytes k)) e
  where
    go :
        (a b : Bool) → leb 1 k ≡ a → leb k 3 ≡ b → (rest : Result Fields Refusal) → cond (a && b) rest (Err Argument) ≡ Ok f
        → (1 ≤ k) × (k ≤ 3)
    go true true x y rest h = (leb-true 1 k x, leb-true k 3 y)
    go true false x y rest h = absurd (let z : ◌≡◌ {A = ℕ} 0 1 = cc in omega arith)
    go false b x y rest h = absurd (let z : ◌≡◌ {A = ℕ} 0 1 = cc in omega arith)

module _ (moment : ℕ) (item : Item) (at : ℕ) where
  -- no certificate that passes
  invalid : valid_of moment item ≡ false → eqb item.kind 4 ≡ false → Reading moment item at true blank
  unfolding anchor_of
  invalid v four =
      neither (rw (v, and-false (eqb item.flags 1), and-false (eqb item.kind 1))) (λ k l h. rw (v, and-false (eqb item.kind k)))
      (rw four) refl

  on-certificate :
      (j : Result Fields Refusal) → judged_of item.bytes item.kind ≡ j → eqb item.kind 4 ≡ false → (item.kind ≡ 1 → item.flags ≡ 1)
      → Reading moment item at true (certificate_row moment item at j)
  unfolding certificate_row valid_of on_certificate
  on-certificate (Err refusal) j four enabled = invalid (rw j) four
  on-certificate (Ok f) j four enabled = go (within f.start f.end moment) refl
    where
      go :
          (b : Bool) → within f.start f.end moment ≡ b
          → Reading moment item at true (cond b (certificate_told item at f) blank)
      go true w = let bounds = role-bounds item.bytes item.kind f j in certificate f refl j (rw (j, w)) bounds.0 bounds.1 enabled refl
      go false w = invalid (rw (j, w)) four

  -- no CRL that passes
  stale : current_of moment item ≡ false → item.kind ≡ 4 → Reading moment item at true blank
  unfolding anchor_of
  stale v four =
      neither (rw four) (λ k l h. rw (ne_eqb item.kind k (λ z. omega arith))) (rw (v, and-false (eqb item.kind 4))) refl

  on-list :
      (j : Result crls.Fields Refusal) → lists.judged_of paper item.bytes ≡ j → item.kind ≡ 4 → Reading moment item at true (list_row moment item at j)
  unfolding list_row current_of on_list
  on-list (Err refusal) j four = stale (rw j) four
  on-list (Ok f) j four = go (within f.this_update f.next_update moment) refl
    where
      go :
          (b : Bool) → within f.this_update f.next_update moment ≡ b
          → Reading moment item at true (cond b (list_told item at f) blank)
      go true w = list f refl four j (rw (j, w)) refl
      go false w = stale (rw (j, w)) four

  -- a disabled anchor
  disabled : item.kind ≡ 1 → eqb item.flags 1 ≡ false → Reading moment item at true blank
  unfolding anchor_of
  disabled one off =
      neither (rw (off, and-false (eqb item.kind 1))) (λ k l h. rw (ne_eqb item.kind k (λ z. omega arith))) (rw one) refl

  -- the row of an item that is opened
  pub reading : Reading moment item at true (row_of moment item at)
  unfolding row_of
  reading = go (eqb item.kind 4) refl (eqb item.kind 1) refl (eqb item.flags 1) refl
    where
      go :
          (a : Bool) → eqb item.kind 4 ≡ a → (b : Bool) → eqb item.kind 1 ≡ b → (c : Bool) → eqb item.flags 1 ≡ c
          → Reading moment item at true
          (cond a (list_row moment item at (lists.judged_of paper item.bytes))
          (cond b (cond c (certificate_row moment item at (judged_of item.bytes item.kind)) blank)
          (certificate_row moment item at (judged_of item.bytes item.kind))))
      go true four b one c on = on-list _ refl (eqb-true item.kind 4 four)
      go false four true one true on = on-certificate _ refl four (λ k. eqb-true item.flags 1 on)
      go false four true one false on = disabled (eqb-true item.kind 1 one) on
      go false four false one c on = on-certificate _ refl four (λ k. absurd (eqb-false item.kind 1 one k))

  -- what is shut
  pub unopened : Reading moment item at false blank
  unopened = neither refl (λ k l h. refl) refl refl
