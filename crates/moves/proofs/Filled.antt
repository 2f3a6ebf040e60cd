-- The columns are filled place by place: each turn stores what the entry of its place tells, and what was stored before stays.
use Prim.Native.Nat.{ℕ, zero, suc, ◌+◌, ◌*◌, ◌<◌}
use mathlib.Core.Path.{◌≡◌, refl, sym, subst, ap, ap₂, ◌∙◌}
use mathlib.Core.List.{List, [], ◌∷◌, ◌++◌, map}
use native.Mathlib.Numerals.{add-one}
use native.Mathlib.Omega.{arith}
use lib.ListN.{length, get_or, take, set, replicate, length-set, length-map, get_or-map}
use lib.Seq.{take-suc, take-suc-set, take_all}
use Rattle.image.specs.declared.IndexEntry.{IndexEntry}
use Rattle.image.specs.Items.{Item}
use Rattle.image.specs.Index.{entry_count, entry_in, item_at, items_in}
use Rattle.image.proofs.Places.{length-items, item_in}
use Rattle.letters.specs.declared.telling.Country.{Country}
use Rattle.roundtrip.specs.Columns.{kinds_of, flags_of, lengths_of, letters_of}
use Rattle.moves.specs.Moving.{country_for, moved_item, moved_items}
use Rattle.moves.specs.Rows.{Small, Tabled}

-- what a column holds of an item
abbrev kind_in : Item → ℕ
kind_in item = item.kind

abbrev flags_in : Item → ℕ
flags_in item = item.flags

abbrev size_in : Item → ℕ
size_in item = length item.bytes

kinds-each : (items : List Item) → map kind_in items ≡ kinds_of items
unfolding kinds_of
kinds-each [] = refl
kinds-each (item ∷ rest) = ap (λ (l : List ℕ). item.kind ∷ l) (kinds-each rest)

flags-each : (items : List Item) → map flags_in items ≡ flags_of items
unfolding flags_of
flags-each [] = refl
flags-each (item ∷ rest) = ap (λ (l : List ℕ). item.flags ∷ l) (flags-each rest)

sizes-each : (items : List Item) → map size_in items ≡ lengths_of items
unfolding lengths_of
sizes-each [] = refl
sizes-each (item ∷ rest) = ap (λ (l : List ℕ). length item.bytes ∷ l) (sizes-each rest)

-- one store more
fill :
    (xs l : List ℕ) (j x d : ℕ) → j < length xs → j < length l → x ≡ get_or l j d → take j xs ≡ take j l
    → take (j + 1) (set xs j x) ≡ take (j + 1) l
fill xs l j x d h k is e =
    rw (add-one j) (take-suc-set xs j x h ∙ ap₂ (λ (t : List ℕ) (y : ℕ). t ++ (y ∷ [])) e is ∙ sym (take-suc l j d k))

-- in a column that holds a number of each item
column :
    (f : Item → ℕ) (items : List Item) (xs : List ℕ) (place x : ℕ) (item : Item) → place < length xs → place < length items
    → x ≡ f (get_or items place item) → take place xs ≡ take place (map f items)
    → take (place + 1) (set xs place x) ≡ take (place + 1) (map f items)
column f items xs place x item h k is e =
    let inside : place < length (map f items) = rw (length-map items f) k in
    fill xs (map f items) place x (f item) h inside (is ∙ sym (get_or-map f items place item)) e

-- the letters of an item stand at twice its place
module _ (version : ℕ) where
  abbrev letters_for : List Item → List ℕ
  letters_for items = letters_of (moved_items version items)

  abbrev country_in : Item → Country
  country_in item = country_for version item.kind item.bytes

  letters-at :
      (items : List Item) (place : ℕ) (default : Item) → place < length items
      → (get_or (letters_for items) (2 * place) 0 ≡ (country_in (get_or items place default)).first)
      × (get_or (letters_for items) (2 * place + 1) 0 ≡ (country_in (get_or items place default)).second)
  unfolding letters_of moved_items moved_item
  letters-at [] place default h = absurd (omega arith)
  letters-at (item ∷ rest) zero default h = (refl, refl)
  letters-at (item ∷ rest) (suc place) default h =
      let one : 2 * suc place ≡ suc (suc (2 * place)) = omega arith in
      let two : 2 * suc place + 1 ≡ suc (suc (2 * place + 1)) = omega arith in
      let there = letters-at rest place default (omega arith) in (
        ap (λ (n : ℕ). get_or (letters_for (item ∷ rest)) n 0) one ∙ there.0,
        ap (λ (n : ℕ). get_or (letters_for (item ∷ rest)) n 0) two ∙ there.1,
      )

  length-letters : (items : List Item) → length (letters_for items) ≡ 2 * length items
  unfolding letters_of moved_items
  length-letters [] = refl
  length-letters (item ∷ rest) = omega (arith, length-letters rest)

-- the columns as they stand when some places are done
pub record Filled (version : ℕ) (s : List ℕ) (place : ℕ) (kinds flags sizes letters : List ℕ) : Type 0 where
  pub long-kinds : length kinds ≡ 96
  pub long-flags : length flags ≡ 96
  pub long-sizes : length sizes ≡ 96
  pub long-letters : length letters ≡ 192
  pub kinds-so : take place kinds ≡ take place (map kind_in (items_in s))
  pub flags-so : take place flags ≡ take place (map flags_in (items_in s))
  pub sizes-so : take place sizes ≡ take place (map size_in (items_in s))
  pub letters-so : take (2 * place) letters ≡ take (2 * place) (letters_for version (items_in s))

pub filled_none :
    (version : ℕ) (s : List ℕ) → Filled version s 0 (replicate 96 0) (replicate 96 0) (replicate 96 0) (replicate 192 0)
filled_none version s =
    record {
      long-kinds = refl;
      long-flags = refl;
      long-sizes = refl;
      long-letters = refl;
      kinds-so = refl;
      flags-so = refl;
      sizes-so = refl;
      letters-so = refl;
    }

-- one place more, whose entry and item were read
module _ (version : ℕ) (s : List ℕ) (place : ℕ) (h : place < entry_count s) (few : place < 96) where
  module _ {e : IndexEntry} (is : e ≡ entry_in s place) (small : Small s (entry_in s place)) where
    module _ {bytes : List ℕ} (part : bytes ≡ (item_at s (entry_in s place)).bytes) where
      module _ {country : Country} (told : country ≡ country_for version e.kind bytes) where
        abbrev here : Item
        here = item_at s (entry_in s place)

        item : get_or (items_in s) place here ≡ here
        item = item_in s place here h

        same_kind : e.kind ≡ kind_in (get_or (items_in s) place here)
        unfolding item_at
        same_kind = ap (λ (one : IndexEntry). one.kind) is ∙ ap kind_in (sym item)

        same_flags : e.flags ≡ flags_in (get_or (items_in s) place here)
        unfolding item_at
        same_flags = ap (λ (one : IndexEntry). one.flags) is ∙ ap flags_in (sym item)

        same_size : e.length ≡ size_in (get_or (items_in s) place here)
        unfolding item_at
        same_size = ap (λ (one : IndexEntry). one.length) is ∙ sym small.whole ∙ ap size_in (sym item)

        same_bytes : bytes ≡ (get_or (items_in s) place here).bytes
        same_bytes = part ∙ ap (λ (one : Item). one.bytes) (sym item)

        same-country : country ≡ country_in version (get_or (items_in s) place here)
        same-country = told ∙ ap₂ (country_for version) same_kind same_bytes

        inside : place < length (items_in s)
        inside = rw (length-items s) h

        module _ {kinds flags sizes letters : List ℕ} (f : Filled version s place kinds flags sizes letters) where
          letters-more :
              take (2 * (place + 1)) (set (set letters (2 * place) country.first) (2 * place + 1) country.second)
              ≡ take (2 * (place + 1)) (letters_for version (items_in s))
          letters-more =
              let l : List ℕ = letters_for version (items_in s) in
              let long : length l ≡ 2 * length (items_in s) = length-letters version (items_in s) in
              let at = letters-at version (items_in s) place here inside in
              let one =
              fill letters l (2 * place) country.first 0 (omega (arith, f.long-letters)) (omega (arith, inside, long))
              (ap (λ (c : Country). c.first) same-country ∙ sym at.0) f.letters-so in
              let first : List ℕ = set letters (2 * place) country.first in
              let room : length first ≡ 192 = length-set letters (2 * place) country.first ∙ f.long-letters in
              let two =
              fill first l (2 * place + 1) country.second 0 (omega (arith, room)) (omega (arith, inside, long))
              (ap (λ (c : Country). c.second) same-country ∙ sym at.1) one in
              let twice : 2 * place + 1 + 1 ≡ 2 * (place + 1) = omega arith in
              subst (λ (n : ℕ). take n (set first (2 * place + 1) country.second) ≡ take n l) twice two

          pub filled_more :
              Filled version s (place + 1) (set kinds place e.kind) (set flags place e.flags) (set sizes place e.length)
              (set (set letters (2 * place) country.first) (2 * place + 1) country.second)
          filled_more =
              record {
                long-kinds = simp length-set f.long-kinds;
                long-flags = simp length-set f.long-flags;
                long-sizes = simp length-set f.long-sizes;
                long-letters = simp length-set f.long-letters;
                kinds-so = column kind_in (items_in s) kinds place e.kind here (omega (arith, f.long-kinds)) inside same_kind f.kinds-so;
                flags-so = column flags_in (items_in s) flags place e.flags here (omega (arith, f.long-flags)) inside same_flags f.flags-so;
                sizes-so = column size_in (items_in s) sizes place e.length here (omega (arith, f.long-sizes)) inside same_size f.sizes-so;
                letters-so = letters-more;
              }

-- all places
module _ {version : ℕ} {s : List ℕ} {n : ℕ} {kinds flags sizes letters : List ℕ} (f : Filled version s n kinds flags sizes letters) where
  pub filled-all : n ≡ entry_count s → Tabled version s n kinds flags sizes letters
  filled-all many =
      let items : List Item = items_in s in
      let long : length items ≡ n = length-items s ∙ sym many in
      let whole : (g : Item → ℕ) → take n (map g items) ≡ map g items =
      λ g. take_all n (map g items) (omega (arith, length-map items g)) in
      record {
        long-kinds = f.long-kinds;
        long-flags = f.long-flags;
        long-sizes = f.long-sizes;
        long-letters = f.long-letters;
        kinds-are = f.kinds-so ∙ whole kind_in ∙ kinds-each items;
        flags-are = f.flags-so ∙ whole flags_in ∙ flags-each items;
        sizes-are = f.sizes-so ∙ whole size_in ∙ sizes-each items;
        letters-are = f.letters-so ∙ take_all (2 * n) (letters_for version items) (omega (arith, length-letters version items));
      }
