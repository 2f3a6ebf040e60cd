-- Whether the item that an entry tells stays.
use Rattle.std.specs.Prelude.{Result, Ok, Err, MatchResult}
use Prim.Native.Nat.{ℕ}
use mathlib.Core.Path.{◌≡◌, refl}
use mathlib.Core.Bool.{Bool, true, false}
use mathlib.Core.List.{List}
use lib.Dec.{eqb, leb}
use Rattle.der.specs.Forms.{paper}
use Rattle.refusal.specs.declared.Refusal.{Refusal}
use Rattle.certificate.specs.declared.Fields.{Fields}
use Rattle.certificate.specs.Answer as certificates
use Rattle.crl.specs.declared.Fields as list-fields
use Rattle.crl.specs.Answer as lists
use Rattle.image.specs.declared.IndexEntry.{IndexEntry}
use Rattle.image.specs.Index.{entry_in, item_at}
use Rattle.room.specs.Kept.{certificate_stays, list_stays, stays_of, stays}

-- what a judge answers tells it
module _ (moment : ℕ) {answer : Bool} where
  pub list_told :
      (j : Result list-fields.Fields Refusal) {P : list-fields.Fields → Type 0}
      → ((f : list-fields.Fields) → P f → answer ≡ leb moment f.next_update) → MatchResult j P (λ e. answer ≡ false) → answer ≡ list_stays moment j
  unfolding list_stays
  list_told (Ok f) post told = post f told
  list_told (Err e) post told = told

  pub certificate_told :
      (j : Result Fields Refusal) {P : Fields → Type 0} → ((f : Fields) → P f → answer ≡ leb moment f.end)
      → MatchResult j P (λ e. answer ≡ false) → answer ≡ certificate_stays moment j
  unfolding certificate_stays
  certificate_told (Ok f) post told = post f told
  certificate_told (Err e) post told = told

module _ (moment : ℕ) (s : List ℕ) (place : ℕ) {e : IndexEntry} {item : List ℕ} (same : e ≡ entry_in s place)
    (is : item ≡ (item_at s (entry_in s place)).bytes) where
  pub list-item : eqb e.kind 4 ≡ true → list_stays moment (lists.judged_of paper item) ≡ stays moment (item_at s (entry_in s place))
  unfolding stays_of item_at
  list-item four = rw (is, rw same at four) refl

  pub certificate-item :
      eqb e.kind 4 ≡ false → certificate_stays moment (certificates.judged_of item e.kind) ≡ stays moment (item_at s (entry_in s place))
  unfolding stays_of item_at
  certificate-item other = rw (is, same, rw same at other) refl
