-- What is read of a place's entry and item decides whether its anchor is asked for, since the entry tells the item.
use Prim.Native.Nat.{ℕ, ◌≤◌}
use mathlib.Core.Path.{◌≡◌, sym, ◌∙◌}
use mathlib.Core.Bool.{Bool, true, false, ◌&&◌, and-eq-true_iff}
use mathlib.Core.List.{List}
use borrow.Author.Tests.{eq-eqb, ne_eqb}
use Rattle.names.specs.Names.{is_capital}
use Rattle.image.specs.declared.IndexEntry.{IndexEntry}
use Rattle.image.specs.Index.{entry_in, item_at}
use Rattle.image.specs.Items.{Item}
use Rattle.letters.specs.declared.telling.Country.{Country}
use Rattle.letters.specs.TrueLetters.{true_of, true_letters, spells}
use Rattle.letters.proofs.Capitals.{capital-low}
use Rattle.anchors.specs.Listing.{enabled, full_for, short_for, index_letters}
use Rattle.anchors.specs.Inner.{test_for}

unenabled : (by : Bool) (first second : ℕ) (item : Item) → enabled item ≡ false → false ≡ test_for by first second item
unfolding test_for full_for short_for
unenabled true first second item e = rw e
unenabled false first second item e = rw e

module _ (first second : ℕ) (item : Item) (on : enabled item ≡ true) where
  indexed : spells first second (index_letters item) ≡ test_for true first second item
  unfolding test_for short_for
  indexed = rw on

  reported : spells first second (true_letters item) ≡ test_for false first second item
  unfolding test_for full_for
  reported = rw on

module _ (s : List ℕ) (place : ℕ) {kind : ℕ} (of : kind ≡ (entry_in s place).kind) (first second : ℕ) where
  pub other-kind : (by : Bool) → (kind ≡ 1 → ⊥) → false ≡ test_for by first second (item_at s (entry_in s place))
  unfolding enabled item_at
  other-kind by n = unenabled by first second (item_at s (entry_in s place)) (rw (ne_eqb _ _ (λ e. n (of ∙ e))))

  module _ (one : kind ≡ 1) {e : IndexEntry} (is : e ≡ entry_in s place) where
    anchor : e.kind ≡ 1
    anchor = rw is (sym of ∙ one)

    pub not-enabled : (by : Bool) → (e.flags ≡ 1 → ⊥) → false ≡ test_for by first second (item_at s (entry_in s place))
    unfolding enabled item_at
    not-enabled by n = rw (← is) (unenabled by first second (item_at s e) (rw (eq-eqb _ _ anchor, ne_eqb _ _ n)))

    module _ (flagged : e.flags ≡ 1) where
      on : enabled (item_at s e) ≡ true
      unfolding enabled item_at
      on = rw (eq-eqb _ _ anchor, eq-eqb _ _ flagged)

      -- by the letters of the entry
      pub by_index :
          {by answer : Bool} → by ≡ true → answer ≡ spells first second (record { first = e.first; second = e.second })
          → answer ≡ test_for by first second (item_at s (entry_in s place))
      unfolding index_letters item_at
      by_index b a = rw (b, a, ← is) (indexed first second (item_at s e) on)

      -- by those that the item reports
      pub by-report :
          {by answer : Bool} {bytes : List ℕ} {country : Country} → by ≡ false → bytes ≡ (item_at s (entry_in s place)).bytes
          → country ≡ true_of e.kind bytes → answer ≡ spells first second country
          → answer ≡ test_for by first second (item_at s (entry_in s place))
      unfolding item_at
      by-report b part told a = rw (b, a, told, part, ← is) (reported first second (item_at s e) on)

-- letters from A to Z fit in an octet
module _ (first second : ℕ) (both : (is_capital first && is_capital second) ≡ true) where
  pub first_fits : first ≤ 90
  first_fits = capital-low first ((and-eq-true_iff (is_capital first) (is_capital second)).0 both).0

  pub second_fits : second ≤ 90
  second_fits = capital-low second ((and-eq-true_iff (is_capital first) (is_capital second)).0 both).1
