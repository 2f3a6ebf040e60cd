-- An image in which room was made: its good chains are those of the items that stay, and room made in it again leaves it as it is.
use Prim.Native.Nat.{ℕ, ◌+◌, ◌*◌, ◌≤◌}
use mathlib.Core.Path.{◌≡◌, sym, ap, ap₂, subst, ◌∙◌}
use mathlib.Core.List.{List}
use native.Mathlib.Omega.{arith}
use lib.ListN.{length, get_or}
use Rattle.graph.specs.Chains.{Graph}
use Rattle.image.specs.Items.{Item, image_bytes}
use Rattle.image.specs.Index.{entry_count, version_in, day_in, items_in}
use Rattle.usable.specs.Items.{item_at}
use Rattle.usable.specs.Table.{verdict_in}
use Rattle.chain.specs.Good.{chains}
use Rattle.chain.specs.Answer.{good_chains}
use Rattle.room.specs.Kept.{stays, kept, kept_places, new_place, cut}
use Rattle.room.specs.Making.{room_bytes, room_table}
use Rattle.renumbered.specs.Graphs.{chains_of, chains_kept}
use Rattle.renumbered.proofs.Choosing.{places-many, chosen-again, places-again}
use Rattle.renumbered.proofs.Cutting.{lines_long, cut_all}
use Rattle.renumbered.proofs.Numbers.{old_place, same-verdict}
use Rattle.renumbered.proofs.Staying.{matched}
use Rattle.renumbered.proofs.Carried.{Matched}
use Rattle.renumbered.proofs.Images.{Reads}

pub kept-matched :
    (moment later : ℕ) → moment ≤ later → (items : List Item) (n : ℕ) (table : List ℕ)
    → Matched (chains_of items n table later) (chains_kept moment items n table later) (λ p. stays moment (item_at items p))
    (new_place moment items) (old_place moment items)
kept-matched moment later since items n table =
    matched moment later since items (verdict_in n table)
    (verdict_in (length (kept moment items)) (cut n table (kept_places moment items))) (same-verdict moment items n table)

module _ {moment : ℕ} {s : List ℕ} {day version : ℕ} (r : Reads moment s day version) where
  abbrev room : List ℕ
  room = room_bytes moment s

  pub room-graph :
      (table : List ℕ) (later : ℕ)
      → chains_kept moment (items_in s) (entry_count s) table later ≡ good_chains room (room_table moment s table) later
  unfolding room_table
  room-graph table later =
      ap₂ (λ (items : List Item) (n : ℕ). chains items (verdict_in n (room_table moment s table)) later) (sym r.items) (sym r.entries)

  pub room-matched :
      (later : ℕ) → moment ≤ later → (table : List ℕ)
      → Matched (good_chains s table later) (good_chains room (room_table moment s table) later) (λ p. stays moment (item_at (items_in s) p))
      (new_place moment (items_in s)) (old_place moment (items_in s))
  room-matched later since table =
      subst
      (λ (h : Graph).
      Matched (good_chains s table later) h (λ p. stays moment (item_at (items_in s) p)) (new_place moment (items_in s)) (old_place moment (items_in s)))
      (room-graph table later)
      (kept-matched moment later since (items_in s) (entry_count s) table)

  -- all that stays stays again
  kept_again : kept moment (items_in room) ≡ kept moment (items_in s)
  kept_again = ap (kept moment) r.items ∙ chosen-again (stays moment) (items_in s)

  pub bytes-again : room_bytes moment room ≡ room
  unfolding room_bytes
  bytes-again =
      ap₂ (λ (v d : ℕ). image_bytes v (kept moment (items_in room)) d) r.same_version r.same-day
      ∙ ap (λ (items : List Item). image_bytes (version_in s) items (day_in s)) kept_again

  pub table-again : (table : List ℕ) → room_table moment room (room_table moment s table) ≡ room_table moment s table
  unfolding room_table
  table-again table =
      let items : List Item = kept moment (items_in s) in
      let small : List ℕ = room_table moment s table in
      let many : length (kept_places moment (items_in s)) ≡ length items = places-many (stays moment) (items_in s) 0 in
      let whole : length small ≡ length items * length items =
      lines_long (entry_count s) table (kept_places moment (items_in s)) (kept_places moment (items_in s)) ∙ ap (λ (k : ℕ). k * k) many in
      let all : length (kept_places moment items) ≡ length items =
      places-many (stays moment) items 0 ∙ ap length (chosen-again (stays moment) (items_in s)) in
      ap₂ (λ (n : ℕ) (list : List Item). cut n small (kept_places moment list)) r.entries r.items
      ∙ cut_all (length items) small (kept_places moment items) whole all
      (λ k l. let at : get_or (kept_places moment items) k 0 ≡ 0 + k = places-again (stays moment) (items_in s) 0 k l in omega (arith, at))
