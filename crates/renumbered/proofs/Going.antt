-- An item that goes is past, or does not pass: at no later moment it is usable, or counts.
use Rattle.std.specs.Prelude.{Result, Ok, Err}
use Prim.Native.Nat.{ℕ, ◌≤◌, ◌<◌}
use mathlib.Core.Path.{◌≡◌, refl, sym, ◌∙◌}
use mathlib.Core.Bool.{Bool, true, false, ◌&&◌}
use mathlib.Core.List.{List}
use native.Mathlib.Omega.{arith}
use borrow.Author.Tests.{leb-false, lt-leb, eqb-true, eq-eqb, ne_eqb}
use lib.Dec.{leb, eqb}
use Rattle.der.specs.Forms.{paper}
use Rattle.refusal.specs.declared.Refusal.{Refusal}
use Rattle.certificate.specs.declared.Fields.{Fields}
use Rattle.certificate.specs.Answer.{judged_of}
use Rattle.crl.specs.declared.Fields as list-fields
use Rattle.crl.specs.Answer as lists-answer
use Rattle.image.specs.Items.{Item}
use Rattle.usable.specs.Items.{item_at, on_certificate, certificate_at, on_list, list_at, within}
use Rattle.usable.specs.Usable.{valid, usable_anchor, counts, usable}
use Rattle.usable.specs.Steps.{has_kind}
use Rattle.usable.proofs.Booleans.{and-false}
use Rattle.room.specs.Kept.{certificate_stays, list_stays, stays_of, stays}

-- a first test that holds leads to a second that does not
never : (a b : Bool) → (a ≡ true → b ≡ false) → (a && b) ≡ false
never true b f = f refl
never false b f = refl

module _ (moment later : ℕ) (since : moment ≤ later) where
  past : (from last : ℕ) → leb moment last ≡ false → within from last later ≡ false
  unfolding within
  past from last e =
      let over : last < later = omega (arith, leb-false moment last e) in
      rw (lt-leb later last over) (and-false (leb from later))

  certificate-past : (j : Result Fields Refusal) → certificate_stays moment j ≡ false → on_certificate j (λ f. within f.start f.end later) ≡ false
  unfolding certificate_stays on_certificate
  certificate-past (Err refusal) e = refl
  certificate-past (Ok f) e = past f.start f.end e

  list-past :
      (j : Result list-fields.Fields Refusal) → list_stays moment j ≡ false
      → on_list j (λ g. within g.this_update g.next_update later) ≡ false
  unfolding list_stays on_list
  list-past (Err refusal) e = refl
  list-past (Ok f) e = past f.this_update f.next_update e

  module _ (items : List Item) (p : ℕ) (goes : stays moment (item_at items p) ≡ false) where
    not_valid : ((item_at items p).kind ≡ 4 → ⊥) → valid items later p ≡ false
    unfolding valid certificate_at stays_of
    not_valid other =
        certificate-past (judged_of (item_at items p).bytes (item_at items p).kind) (rw (ne_eqb (item_at items p).kind 4 other) at goes)

    not-timely : (item_at items p).kind ≡ 4 → list_at items p (λ g. within g.this_update g.next_update later) ≡ false
    unfolding list_at stays_of
    not-timely four = list-past (lists-answer.judged_of paper (item_at items p).bytes) (rw (eq-eqb (item_at items p).kind 4 four) at goes)

    -- it is no usable anchor,
    pub went-anchor : usable_anchor items later p ≡ false
    unfolding usable_anchor
    went-anchor =
        never (eqb (item_at items p).kind 1) _ λ one.
        let is : (item_at items p).kind ≡ 1 = eqb-true _ _ one in
        rw (not_valid (λ four. omega (arith, is, four))) (and-false (eqb (item_at items p).flags 1))

    module _ (verdict : ℕ → ℕ → Bool) where
      -- no usable link or signer,
      pub went-usable : ((item_at items p).kind ≡ 4 → ⊥) → usable items verdict later p ≡ false
      unfolding usable
      went-usable other = rw (not_valid other)

      pub went-role : (kind : ℕ) → (kind ≡ 4 → ⊥) → (has_kind items kind p && usable items verdict later p) ≡ false
      unfolding has_kind
      went-role kind other =
          never (eqb (item_at items p).kind kind) _ λ e. went-usable λ four. other (sym (eqb-true _ _ e) ∙ four)

      -- and no CRL that counts
      pub went-counts : counts items verdict later p ≡ false
      unfolding counts
      went-counts = never (eqb (item_at items p).kind 4) _ λ four. rw (not-timely (eqb-true _ _ four))
