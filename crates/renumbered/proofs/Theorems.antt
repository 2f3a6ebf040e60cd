-- An image in which room was made for a moment has, at that moment and at every later one, the same good chains under new numbers.
use Prim.Native.Nat.{ℕ, ◌<◌, ◌≤◌}
use mathlib.Core.Path.{◌≡◌, sym}
use mathlib.Core.Bool.{Bool, true, false}
use mathlib.Core.List.{List, map}
use native.Mathlib.Omega.{arith}
use lib.ListN.{length, get_or}
use Rattle.refusal.specs.declared.Refusal.TheVariants as refusal
use Rattle.octets.specs.Octets.{Octets}
use Rattle.calendar.specs.Days.{real_moment}
use Rattle.graph.specs.Chains.{Chain, Best}
use Rattle.graph.proofs.Cases.{clash}
use Rattle.graph.proofs.Targets.{chain-target}
use Rattle.image.specs.Items.{Item}
use Rattle.image.specs.Index.{entry_count, items_in}
use Rattle.image.specs.Answer.{opened_of}
use Rattle.image.proofs.Places.{length-items}
use Rattle.image.proofs.Few.{opened-image}
use Rattle.usable.specs.Items.{item_at}
use Rattle.usable.specs.Usable.{usable_anchor, counts, usable}
use Rattle.usable.specs.Table.{verdict_in, table_good}
use Rattle.chain.specs.Good.{chains}
use Rattle.chain.specs.declared.Answer.{Answer}
use Rattle.chain.specs.Answer.{good_chains, Without, Answered, refused, none, found}
use Rattle.room.specs.Kept.{stays, kept, kept_places, new_place, cut}
use Rattle.room.specs.Making.{room_bytes, room_table}
use Rattle.renumbered.specs.Answers.{Stays, Renumbered}
use Rattle.renumbered.specs.Graphs.{chains_of, chains_kept}
use Rattle.renumbered.proofs.Choosing as chosen
use Rattle.renumbered.proofs.Cutting.{cut-good}
use Rattle.renumbered.proofs.Going.{went-anchor, went-usable, went-counts, went-role}
use Rattle.renumbered.proofs.Numbers as numbers
use Rattle.renumbered.proofs.Carried as carried
use Rattle.renumbered.proofs.Images.{room-reads, good-question}
use Rattle.renumbered.proofs.Rooms.{kept-matched, room-graph, room-matched, bytes-again, table-again}
use Rattle.renumbered.proofs.Answers.{answers-match}
use Rattle.image.proofs.Payloads.{an_image}

-- An item that goes is, from that moment on, no usable anchor, no usable link or signer, and no CRL that counts.
pub went :
    (moment later : ℕ) → moment ≤ later → (items : List Item) (p : ℕ) → stays moment (item_at items p) ≡ false
    → (usable_anchor items later p ≡ false)
    × ((verdict : ℕ → ℕ → Bool) → ((item_at items p).kind ≡ 4 → ⊥) → usable items verdict later p ≡ false)
    × ((verdict : ℕ → ℕ → Bool) → counts items verdict later p ≡ false)
went moment later since items p goes =
    (went-anchor moment later since items p goes, went-usable moment later since items p goes, went-counts moment later since items p goes)

-- A signer that went had no chain at that moment, and has none at a later one.
pub signer-went :
    (moment later : ℕ) → moment ≤ later → (s table : List ℕ) (p : ℕ) → stays moment (item_at (items_in s) p) ≡ false
    → (c : List ℕ) → Chain (good_chains s table later) p c → ⊥
unfolding chains
signer-went moment later since s table p goes c good =
    clash (chain-target good).1 (went-role moment later since (items_in s) p goes (verdict_in (entry_count s) table) 3 (omega arith))

module _ (moment : ℕ) (items : List Item) where
  -- There are as many places that stay as items, and they are told in their order:
  pub places-many : length (kept_places moment items) ≡ length (kept moment items)
  places-many = chosen.places-many (stays moment) items 0

  pub places-ascend :
      (j k : ℕ) → k < length (kept moment items) → j < k → get_or (kept_places moment items) j 0 < get_or (kept_places moment items) k 0
  places-ascend = numbers.place-order moment items

  -- the k-th of them is a place of the list that stays, and has the new number k.
  pub kept-places :
      (k : ℕ) → k < length (kept moment items)
      → Stays moment items (get_or (kept_places moment items) k 0) × (new_place moment items (get_or (kept_places moment items) k 0) ≡ k)
  kept-places = numbers.new-of-old moment items

  -- Of each place that stays: its new number is one of the new list, which has the same item there; and the number tells the place.
  pub new-number :
      (p : ℕ) → Stays moment items p
      → (new_place moment items p < length (kept moment items))
      × (item_at (kept moment items) (new_place moment items p) ≡ item_at items p)
      × (get_or (kept_places moment items) (new_place moment items p) 0 ≡ p)
  new-number p s = (numbers.number-inside moment items p s, numbers.same_item moment items p s, numbers.old-of-new moment items p s)

  -- New numbers keep the order.
  pub order-kept : (p q : ℕ) → Stays moment items p → p < q → new_place moment items p < new_place moment items q
  order-kept = numbers.number-order moment items

  -- The cut table has the verdicts of the places that stay,
  pub verdict-kept :
      (n : ℕ) (table : List ℕ) (u v : ℕ) → Stays moment items u → Stays moment items v
      → verdict_in (length (kept moment items)) (cut n table (kept_places moment items)) (new_place moment items u) (new_place moment items v)
      ≡ verdict_in n table u v
  verdict-kept = numbers.same-verdict moment items

  -- and is a good table for them where the old one was.
  pub table_kept :
      (n : ℕ) (table : List ℕ) → table_good n table ≡ true
      → table_good (length (kept moment items)) (cut n table (kept_places moment items)) ≡ true
  table_kept n table good = cut-good n (length (kept moment items)) table (kept_places moment items) good places-many

module _ (moment later : ℕ) (since : moment ≤ later) (items : List Item) (n : ℕ) (table : List ℕ) where
  abbrev match : carried.Matched (chains_of items n table later) (chains_kept moment items n table later) (λ p. stays moment (item_at items p))
      (new_place moment items) (numbers.old_place moment items)
  match = kept-matched moment later since items n table

  -- What a place that stays may be in a chain, and which steps between two of them are good, is as it was.
  pub same_roles :
      (p : ℕ) → Stays moment items p → let number = new_place moment items p in
      ((chains_kept moment items n table later).anchor number ≡ (chains_of items n table later).anchor p)
      × ((chains_kept moment items n table later).link number ≡ (chains_of items n table later).link p)
      × ((chains_kept moment items n table later).signer number ≡ (chains_of items n table later).signer p)
  unfolding chains
  same_roles p s =
      (match.anchor p s.inside s.kept, match.link p s.inside s.kept, match.signer p s.inside s.kept)

  pub same_step :
      (u v : ℕ) → Stays moment items u → Stays moment items v
      → (chains_kept moment items n table later).step (new_place moment items u) (new_place moment items v) ≡ (chains_of items n table later).step u v
  unfolding chains
  same_step u v s t = match.step u v s.inside t.inside s.kept t.kept

  -- Every good chain stands on places that stay, the signer's among them.
  pub chain-stands :
      (p : ℕ) (c : List ℕ) → Chain (chains_of items n table later) p c → (i : ℕ) → i < length c → Stays moment items (get_or c i 0)
  unfolding chains
  chain-stands p c good i l = let (inside, keeps) = carried.chain-stays match good i l in record { inside = inside; kept = keeps }

  -- Each good chain is one under the new numbers,
  pub chain-renumbered :
      (p : ℕ) (c : List ℕ) → Chain (chains_of items n table later) p c
      → Chain (chains_kept moment items n table later) (new_place moment items p) (map (new_place moment items) c)
  chain-renumbered p c = carried.renumbered match

  -- and there are no others.
  pub chain-before :
      (p : ℕ) → Stays moment items p → (d : List ℕ) → Chain (chains_kept moment items n table later) (new_place moment items p) d
      → (c : List ℕ) × (d ≡ map (new_place moment items) c) × Chain (chains_of items n table later) p c
  unfolding chains
  chain-before p s d = carried.from_first match s.inside s.kept

  -- The best one stays the best one: since the order is kept, so is what is shortest and first.
  pub best-renumbered :
      (p : ℕ) → Stays moment items p → (c : List ℕ) → Best (chains_of items n table later) p c
      → Best (chains_kept moment items n table later) (new_place moment items p) (map (new_place moment items) c)
  unfolding chains
  best-renumbered p s c = carried.best-renumbered match s.inside s.kept

  pub best-before :
      (p : ℕ) → Stays moment items p → (d : List ℕ) → Best (chains_kept moment items n table later) (new_place moment items p) d
      → (c : List ℕ) × (d ≡ map (new_place moment items) c) × Best (chains_of items n table later) p c
  unfolding chains
  best-before p s d = carried.best-from-first match s.inside s.kept

module _ (moment : ℕ) (s : List ℕ) (n day version : ℕ) (o : Octets s) (e : opened_of s ≡ an_image n day version) where
  -- What is written is an image with the same day and version, and its items are those that stay.
  pub room-readable :
      (opened_of (room_bytes moment s) ≡ an_image (length (kept moment (items_in s))) day version)
      × (items_in (room_bytes moment s) ≡ kept moment (items_in s))
  room-readable = let reads = room-reads moment o e in (reads.opened, reads.items)

  -- Doing it twice with the same moment changes nothing.
  pub image-twice : room_bytes moment (room_bytes moment s) ≡ room_bytes moment s
  image-twice = bytes-again (room-reads moment o e)

  pub table-twice : (table : List ℕ) → room_table moment (room_bytes moment s) (room_table moment s table) ≡ room_table moment s table
  table-twice = table-again (room-reads moment o e)

  module _ (table : List ℕ) (good : table_good n table ≡ true) where
    -- The table that is written is a good one for it,
    pub room-table : table_good (length (kept moment (items_in s))) (room_table moment s table) ≡ true
    unfolding room_table
    room-table =
        let is : n ≡ entry_count s = (opened-image 1 2 s n day version e).0 in
        table_kept moment (items_in s) (entry_count s) table (rw is at good)

    -- and its good chains are those of the items that stay.
    pub room-chains :
        (later : ℕ)
        → good_chains (room_bytes moment s) (room_table moment s table) later ≡ chains_kept moment (items_in s) (entry_count s) table later
    room-chains later = sym (room-graph (room-reads moment o e) table later)

    module _ (later : ℕ) (since : moment ≤ later) (real : real_moment 1950 2099 later ≡ true) (p : ℕ) (below : p < n)
        (three : (item_at (items_in s) p).kind ≡ 3) where
      -- At that moment and every later one, a signer that stays gets the same chain under new numbers, or 7 in both.
      pub same_answer :
          stays moment (item_at (items_in s) p) ≡ true → (r q : Answer) → Answered s table later p r
          → Answered (room_bytes moment s) (room_table moment s table) later (new_place moment (items_in s) p) q
          → Renumbered moment (items_in s) r q
      unfolding chains
      same_answer keeps r q =
          let items : List Item = items_in s in
          let reads = room-reads moment o e in
          let is : n ≡ entry_count s = (opened-image 1 2 s n day version e).0 in
          let inside : p < length items = omega (arith, length-items s) in
          let stay : Stays moment items p = record { inside = inside; kept = keeps } in
          let (new-inside, same, old) = new-number moment items p stay in
          let kind : (item_at (items_in (room_bytes moment s)) (new_place moment items p)).kind ≡ 3 = rw (reads.items, same) three in
          answers-match (room-matched reads later since table) inside keeps (good-question s e table good later real p below three)
          (good-question (room_bytes moment s) reads.opened (room_table moment s table) room-table later real (new_place moment items p)
          new-inside kind)

      -- A signer that went gets 7.
      pub went-seven : stays moment (item_at (items_in s) p) ≡ false → (r : Answer) → Answered s table later p r → Without refusal.Chain r
      went-seven goes r (refused why f w) =
          absurd (let asks = good-question s e table good later real p below three in let z : ◌≡◌ {A = ℕ} 0 1 = cc in omega arith)
      went-seven goes r (none f empty w) = w
      went-seven goes r (found c f best w) = absurd (signer-went moment later since s table p goes c best.good)
