-- Where all items are open the tables tell the whole graph: every place is within, so every good chain is one of the tables.
use Prim.Native.Nat.{ℕ, ◌<◌, ◌≤◌}
use mathlib.Core.Path.{◌≡◌, refl, sym, ◌∙◌}
use mathlib.Core.Bool.{Bool, true}
use mathlib.Core.List.{List, [], ◌∷◌}
use mathlib.Core.Logic.{inl}
use lib.ListN.{length, replicate}
use Rattle.graph.specs.Chains.{graph_by}
use Rattle.graph.specs.declared.Found.{Found}
use Rattle.graph.specs.Answer.{Answered}
use Rattle.image.specs.Items.{Item}
use Rattle.image.specs.Index.{entry_count, items_in}
use Rattle.usable.specs.declared.opened.Row.{Row}
use Rattle.usable.specs.Table.{verdict_in}
use Rattle.usable.specs.Rows.{held_in, step_of, Counted, Roles}
use Rattle.usable.proofs.Scope.{Placed, Scope}
use Rattle.usable.proofs.CountingMeans.{counting-means}
use Rattle.usable.proofs.RolesMean.{roles-mean}
use Rattle.chain.specs.Answer.{good_chains}
use Rattle.chain.specs.Rounds.{starts_in}
use Rattle.chain.specs.Whole.{AllOpen}
use Rattle.chain.proofs.FirstRound.{no-slots}
use Rattle.chain.proofs.Meaning.{good_of, tables-part}
use Rattle.image.proofs.Places.{length-items}
use Rattle.chain.proofs.PlacesMean.{image-placed}
use Rattle.chain.proofs.Transfer.{AllNear, done, more, answer-out}

-- every place
abbrev every : ℕ → Bool
every p = true

every-scope : (items : List Item) (verdict : ℕ → ℕ → Bool) (moment : ℕ) → Scope items verdict moment every every
every-scope items verdict moment =
    record {
      asked = λ p h k. refl;
      inner = λ p h e. refl;
      vouching = λ u c hu hc w k a s v. refl;
      covering = λ c p hc hp k t l m v. refl;
    }

every-near : (c : List ℕ) → AllNear every c
every-near [] = done
every-near (v ∷ c) = more refl (every-near c)

module _ (items : List Item) (at : ℕ → ℕ) (held : Row → List ℕ) (placed : Placed held items at) (table : List ℕ) (moment target : ℕ) where
  whole-answer :
      (rows : List (List ℕ)) (counting roles : List ℕ) (step : ℕ → ℕ → Bool) {f : Found}
      → length items ≤ 96 → AllOpen moment (length items) items at rows
      → Counted (length items) table rows counting → Roles held (length items) (replicate 96 0) rows counting (replicate 96 0) roles
      → ((u v : ℕ) → u < length items → v < length items → step u v ≡ step_of held (length items) table rows roles u v)
      → Answered (graph_by (length items) roles step) target f
      → Answered (good_of items table moment) target f
  whole-answer rows counting roles step few told counted is agrees answer =
      let scope = every-scope items (verdict_in (length items) table) moment in
      let counts = counting-means items at table moment scope rows told counting counted in
      let known = roles-mean items at table moment scope rows told held placed counting counts (replicate 96 0) (replicate 96 0) roles is
      (λ p k e. absurd (no-slots p e)) in
      answer-out (tables-part items at held placed table moment scope rows roles step few told known agrees)
      (λ u c l a o. inl (every-near (u ∷ c))) answer

-- and so for the items of an image
pub whole-image :
    (s table : List ℕ) (moment target n : ℕ) → n ≡ entry_count s
    → (rows : List (List ℕ)) (counting roles : List ℕ) (step : ℕ → ℕ → Bool) {f : Found} → n ≤ 96
    → AllOpen moment n (items_in s) (starts_in s) rows → Counted n table rows counting
    → Roles (held_in s) n (replicate 96 0) rows counting (replicate 96 0) roles
    → ((u v : ℕ) → u < n → v < n → step u v ≡ step_of (held_in s) n table rows roles u v) → Answered (graph_by n roles step) target f
    → Answered (good_chains s table moment) target f
whole-image s table moment target n same rows counting roles step few told counted is agrees answer =
    let all : n ≡ length (items_in s) = same ∙ sym (length-items s) in
    rw (length-items s) at
    (whole-answer (items_in s) (starts_in s) (held_in s) (image-placed s) table moment target rows counting roles step
    (rw all at few) (rw all at told) (rw all at counted) (rw all at is) (rw all at agrees) (rw all at answer))
