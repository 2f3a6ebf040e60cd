-- One turn over the places of the items that pass a test: those found so far, and those still to be found behind them, are all.
use Prim.Native.Nat.{ℕ, suc, ◌+◌, ◌-◌, ◌<◌, ◌≤◌}
use mathlib.Core.Path.{◌≡◌, refl, ap, sym, ◌∙◌}
use mathlib.Core.Bool.{Bool, true, false}
use mathlib.Core.List.{List, [], ◌∷◌, ◌++◌, append-nil}
use native.Mathlib.Numerals.{add-one}
use native.Mathlib.Omega.{arith}
use lib.ListN.{length, set, drop, replicate, length-append, drop_of_length-le}
use lib.Seq.{append_snoc, set_at}
use Rattle.image.specs.Index.{entry_count, entry_in, item_at, items_in}
use Rattle.image.specs.Items.{Item}
use Rattle.image.proofs.Places.{length-items, items-behind}
use Rattle.image.specs.Chosen.{places_from}

pub record Turn (s : List ℕ) (entries : ℕ) (test : Item → Bool) (places : List ℕ) (count next : ℕ) : Type 0 where
  pub all : entries ≡ entry_count s
  pub small : entries ≤ 96
  pub inside : next ≤ entries
  pub found : List ℕ
  pub many : count ≡ length found
  pub fewer : count ≤ next
  pub slots : places ≡ found ++ replicate (96 - count) 255
  pub left : found ++ places_from test next (drop next (items_in s)) ≡ places_from test 0 (items_in s)

pub start : (s : List ℕ) (entries : ℕ) (test : Item → Bool) → entries ≡ entry_count s → entries ≤ 96 → Turn s entries test (replicate 96 255) 0 0
start s entries test all small =
    record { all = all; small = small; inside = omega arith; found = []; many = refl; fewer = omega arith; slots = refl; left = refl }

module _ (test : Item → Bool) (place : ℕ) (item : Item) (rest : List Item) where
  pub places-skip : test item ≡ false → places_from test place (item ∷ rest) ≡ places_from test (suc place) rest
  unfolding places_from
  places-skip e = rw (e, add-one place)

  pub places-take : test item ≡ true → places_from test place (item ∷ rest) ≡ place ∷ places_from test (suc place) rest
  unfolding places_from
  places-take e = rw (e, add-one place)

module _ {s : List ℕ} {entries : ℕ} {test : Item → Bool} {places : List ℕ} {count next : ℕ} (t : Turn s entries test places count next) where
  module _ (h : next < entries) where
    abbrev item : Item
    item = item_at s (entry_in s next)

    behind : drop next (items_in s) ≡ item ∷ drop (next + 1) (items_in s)
    behind = rw (add-one next) (items-behind s next (omega (arith, t.all)))

    pub skip : {answer : Bool} → answer ≡ test item → answer ≡ false → Turn s entries test places count (next + 1)
    skip e wrong =
        let same : places_from test next (drop next (items_in s)) ≡ places_from test (next + 1) (drop (next + 1) (items_in s)) =
        ap (places_from test next) behind
        ∙ rw (add-one next) (places-skip test next item (drop (suc next) (items_in s)) (sym e ∙ wrong)) in
        record {
          all = t.all;
          small = t.small;
          inside = omega arith;
          found = t.found;
          many = t.many;
          fewer = omega (arith, t.fewer);
          slots = t.slots;
          left = rw (← same) t.left;
        }

    pub take :
        {answer : Bool} → answer ≡ test item → answer ≡ true → Turn s entries test (set places count next) (count + 1) (next + 1)
    take e right =
        let more : places_from test next (drop next (items_in s)) ≡ next ∷ places_from test (next + 1) (drop (next + 1) (items_in s)) =
        ap (places_from test next) behind
        ∙ rw (add-one next) (places-take test next item (drop (suc next) (items_in s)) (sym e ∙ right)) in
        let free : 96 - count ≡ suc (96 - (count + 1)) = omega (arith, t.small, t.fewer) in
        let tail : List ℕ = replicate (96 - (count + 1)) 255 in
        let cut : places ≡ t.found ++ (255 ∷ tail) = t.slots ∙ ap (λ (k : ℕ). t.found ++ replicate k 255) free in
        record {
          all = t.all;
          small = t.small;
          inside = omega arith;
          found = t.found ++ (next ∷ []);
          many = rw length-append (omega (arith, t.many));
          fewer = omega (arith, t.fewer);
          slots =
              ap (λ (l : List ℕ). set l count next) cut ∙ set_at t.found 255 tail next count (sym t.many)
              ∙ sym (append_snoc t.found next tail);
          left =
              append_snoc t.found next (places_from test (next + 1) (drop (next + 1) (items_in s)))
              ∙ ap (λ (l : List ℕ). t.found ++ l) (sym more)
              ∙ t.left;
        }

  -- where all are looked at
  pub all_found : entries ≤ next → t.found ≡ places_from test 0 (items_in s)
  unfolding places_from
  all_found h =
      let past : length (items_in s) ≤ next = omega (arith, t.all, length-items s) in
      let none : drop next (items_in s) ≡ [] = drop_of_length-le (items_in s) past in
      sym (append-nil t.found) ∙ ap (λ (l : List Item). t.found ++ places_from test next l) (sym none) ∙ t.left
