-- The check of an image's letters tells what stands at each place, since the item list is made entry by entry.
use Rattle.std.specs.Prelude.{Ok}
use Prim.Native.Nat.{ℕ, zero, suc, ◌<◌}
use mathlib.Core.Path.{◌≡◌, refl, ◌∙◌, ap}
use mathlib.Core.Bool.{true, and-eq-true_iff}
use mathlib.Core.Logic.{◌↔◌}
use mathlib.Core.List.{List, [], ◌∷◌}
use native.Mathlib.Omega.{arith}
use borrow.Author.Tests.{eqb-true, eq-eqb}
use lib.Dec.{eqb}
use lib.ListN.{length, get_or}
use Rattle.image.specs.Items.{Item}
use Rattle.image.specs.Index.{entry_count, entry_in, item_at, items_in}
use Rattle.image.specs.Answer.{opened_as}
use Rattle.image.proofs.Few.{opened-image}
use Rattle.image.proofs.Places.{length-items, item_in}
use Rattle.letters.specs.declared.telling.Country.{Country}
use Rattle.letters.specs.TrueLetters.{true_letters, spells, lettered, all_lettered}
use Rattle.letters.specs.Check.{on_checked, checked_of}
use Rattle.image.proofs.Payloads.{an_image}

-- two letters are a country's
pub record Are (first second : ℕ) (country : Country) : Type 0 where
  pub one : first ≡ country.first
  pub other : second ≡ country.second

module _ (first second : ℕ) (country : Country) where
  pub spelled-are : spells first second country ≡ true → Are first second country
  unfolding spells
  spelled-are e =
      let both = (and-eq-true_iff (eqb first country.first) (eqb second country.second)).0 e in
      record { one = eqb-true _ _ both.0; other = eqb-true _ _ both.1 }

  pub are-spelled : Are first second country → spells first second country ≡ true
  unfolding spells
  are-spelled a = (and-eq-true_iff (eqb first country.first) (eqb second country.second)).1 (eq-eqb _ _ a.one, eq-eqb _ _ a.other)

-- all items are lettered where each is
pub each-lettered :
    (items : List Item) → all_lettered items ≡ true → (place : ℕ) (default : Item) → place < length items
    → lettered (get_or items place default) ≡ true
unfolding all_lettered
each-lettered [] e place default h = absurd (omega arith)
each-lettered (item ∷ rest) e zero default h = ((and-eq-true_iff (lettered item) (all_lettered rest)).0 e).0
each-lettered (item ∷ rest) e (suc place) default h =
    each-lettered rest ((and-eq-true_iff (lettered item) (all_lettered rest)).0 e).1 place default (omega arith)

pub lettered-all :
    (items : List Item) → ((place : ℕ) (default : Item) → place < length items → lettered (get_or items place default) ≡ true)
    → all_lettered items ≡ true
unfolding all_lettered
lettered-all [] each = refl
lettered-all (item ∷ rest) each =
    (and-eq-true_iff (lettered item) (all_lettered rest)).1
    (each 0 item (omega arith), lettered-all rest (λ place default h. each (suc place) default (omega arith)))

module _ (s : List ℕ) where
  -- the letters in the entry of a place are the true ones of its item
  pub TrueAt : ℕ → Type 0
  TrueAt place = Are (entry_in s place).first (entry_in s place).second (true_letters (item_at s (entry_in s place)))

  lettered-true : (place : ℕ) → lettered (item_at s (entry_in s place)) ≡ true → TrueAt place
  unfolding TrueAt lettered item_at
  lettered-true place e = spelled-are _ _ _ e

  true-lettered : (place : ℕ) → TrueAt place → lettered (item_at s (entry_in s place)) ≡ true
  unfolding TrueAt lettered item_at
  true-lettered place t = are-spelled _ _ _ t

  -- Of an image of version 2 the check tells true exactly where each entry's letters are the true ones of its item.
  pub check-each :
      (n day version : ℕ) → opened_as 2 s ≡ an_image n day version → (checked_of s ≡ Ok true) ↔ ((place : ℕ) → place < n → TrueAt place)
  unfolding checked_of on_checked
  check-each n day version e =
      let many : n ≡ entry_count s = (opened-image 2 2 s n day version e).0 in
      let told : checked_of s ≡ Ok (all_lettered (items_in s)) = rw e in (
        (λ yes. λ place h.
            let all : all_lettered (items_in s) ≡ true = cc in
            let default : Item = item_at s (entry_in s place) in
            let inside : place < entry_count s = omega arith in
            let one = each-lettered (items_in s) all place default (rw (length-items s) inside) in
            lettered-true place (rw (item_in s place default inside) at one)),
        (λ each.
            told
            ∙ ap Ok
            (lettered-all (items_in s)
            (λ place default h.
            let inside : place < entry_count s = rw (length-items s) at h in
            rw (item_in s place default inside) (true-lettered place (each place (omega arith)))))),
      )
