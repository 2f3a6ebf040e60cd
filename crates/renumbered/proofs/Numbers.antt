-- The new number of a place that stays: its item, its place, its order and its verdicts.
use Prim.Native.Nat.{ℕ, ◌+◌, ◌<◌, ◌≤◌}
use mathlib.Core.Path.{◌≡◌, ap, ap₂, ◌∙◌}
use mathlib.Core.List.{List, []}
use mathlib.Core.Logic.{⊎_elim}
use native.Mathlib.Nat.{eq-or-lt_of_le}
use native.Mathlib.Omega.{arith}
use lib.ListN.{length, get_or}
use Rattle.graph.proofs.Cases.{less?}
use Rattle.image.specs.Items.{Item}
use Rattle.usable.specs.Items.{item_at}
use Rattle.usable.specs.Table.{verdict_in}
use Rattle.room.specs.Kept.{stays, kept, kept_places, new_place, cut}
use Rattle.renumbered.specs.Answers.{Stays}
use Rattle.renumbered.proofs.Choosing as chosen
use Rattle.renumbered.proofs.Cutting.{cut-verdict}

-- no item
abbrev none : Item
none = record { kind = 0; flags = 0; bytes = []; first = 0; second = 0 }

module _ (moment : ℕ) (items : List Item) where
  -- the place that a new number stands for
  abbrev pub old_place : ℕ → ℕ
  old_place k = get_or (kept_places moment items) k 0

  pub number-inside : (p : ℕ) → Stays moment items p → new_place moment items p < length (kept moment items)
  unfolding new_place item_at
  number-inside p s = (chosen.stands (stays moment) none items 0 p s.inside s.kept).0

  pub same_item : (p : ℕ) → Stays moment items p → item_at (kept moment items) (new_place moment items p) ≡ item_at items p
  unfolding new_place item_at
  same_item p s = (chosen.stands (stays moment) none items 0 p s.inside s.kept).1

  pub old-of-new : (p : ℕ) → Stays moment items p → old_place (new_place moment items p) ≡ p
  unfolding new_place item_at
  old-of-new p s =
      let from : old_place (new_place moment items p) ≡ 0 + p = (chosen.stands (stays moment) none items 0 p s.inside s.kept).2 in
      omega (arith, from)

  pub number-order :
      (p q : ℕ) → Stays moment items p → p < q → new_place moment items p < new_place moment items q
  unfolding new_place item_at
  number-order p q s l = chosen.rises (stays moment) none items p q s.inside s.kept l

  pub new-of-old :
      (k : ℕ) → k < length (kept moment items) → Stays moment items (old_place k) × (new_place moment items (old_place k) ≡ k)
  unfolding new_place item_at
  new-of-old k h =
      let w = chosen.stood (stays moment) none items 0 k h in
      let is : old_place k ≡ w.place = omega (arith, w.from) in
      rw is (record { inside = w.inside; kept = w.passes }, w.number)

  -- the places come in their order
  pub place-order : (j k : ℕ) → k < length (kept moment items) → j < k → old_place j < old_place k
  place-order j k l w =
      let (s, number) = new-of-old k l in
      let (t, before) = new-of-old j (omega arith) in
      ⊎_elim (λ (less : old_place j < old_place k). less)
      (λ (over : old_place k ≤ old_place j).
      ⊎_elim (λ (same : old_place k ≡ old_place j). absurd (omega (arith, number, before, ap (new_place moment items) same)))
      (λ (less : old_place k < old_place j). absurd (omega (arith, number, before, number-order _ _ s less)))
      (eq-or-lt_of_le over))
      (less? (old_place j) (old_place k))

  -- what is told of two places that stay
  pub same-verdict :
      (n : ℕ) (table : List ℕ) (u v : ℕ) → Stays moment items u → Stays moment items v
      → verdict_in (length (kept moment items)) (cut n table (kept_places moment items)) (new_place moment items u) (new_place moment items v)
      ≡ verdict_in n table u v
  same-verdict n table u v s t =
      cut-verdict n (length (kept moment items)) table (kept_places moment items) _ _ (chosen.places-many (stays moment) items 0)
      (number-inside u s) (number-inside v t)
      ∙ ap₂ (verdict_in n table) (old-of-new u s) (old-of-new v t)
