-- The image and the table of the places that stay are those that are said, and the writer refuses them for want of room alone.
use Rattle.std.specs.Prelude.{Result, Ok, Err}
use Rattle.refusal.specs.declared.Refusal.{Refusal}
use Prim.Native.Nat.{ℕ, suc, ◌+◌, ◌*◌, ◌≤◌, ◌<◌}
use mathlib.Core.Path.{◌≡◌, refl, ap, ap₂, sym, ◌∙◌}
use mathlib.Core.Bool.{Bool, true, false, cond}
use mathlib.Core.List.{List, [], ◌∷◌}
use native.Mathlib.Omega.{arith}
use borrow.Author.Tests.{lt-ltb, le-leb}
use lib.Dec.{leb}
use lib.ListN.{length, get_or}
use Rattle.octets.specs.Octets.{Octets}
use Rattle.refusal.specs.declared.Refusal.TheVariants as refusal
use Rattle.calendar.specs.Days.{real_moment}
use Rattle.image.specs.Answer.{opened_of}
use Rattle.image.specs.Items.{Item, image_bytes}
use Rattle.image.specs.Index.{entry_count, version_in, day_in, entry_in, item_at, items_in}
use Rattle.image.specs.Chosen.{chosen, places_from}
use Rattle.image.proofs.Few.{opened-told}
use Rattle.image.proofs.Places.{length-items, item_in}
use Rattle.writer.specs.Picking.{picked, inside, picked_bytes, size_told, on_picked, picked_of}
use Rattle.writer.proofs.PickedAnswers.{picked-many}
use Rattle.roundtrip.proofs.Theorems.{write_again}
use Rattle.usable.specs.Table.{table_good}
use Rattle.room.specs.declared.Made.{Made}
use Rattle.room.specs.Kept.{stays, kept, kept_places, cut}
use Rattle.room.specs.Making.{room_bytes, room_table, on_opened, made_of, on_made, image_out, table_out}
use Rattle.room.specs.Inner.{on_put, put_of}
use Rattle.room.proofs.Cut.{lines_long}
use Rattle.room.proofs.Fitting.{either, chosen-fits}
use Rattle.image.proofs.Payloads.{an_image}
use Rattle.room.proofs.Payloads.{room_made}

module _ (test : Item → Bool) (s : List ℕ) (none : Item) where
  -- the items at the places of those chosen are these
  chosen-picked :
      (items : List Item) (at : ℕ) → ((i : ℕ) → i < length items → get_or items i none ≡ item_at s (entry_in s (at + i)))
      → picked s (places_from test at items) ≡ chosen test items
  unfolding places_from picked chosen
  chosen-picked [] at told = refl
  chosen-picked (item ∷ rest) at told =
      let more : (i : ℕ) → i < length rest → get_or rest i none ≡ item_at s (entry_in s (at + 1 + i)) =
      λ i h. let there : at + suc i ≡ at + 1 + i = omega arith in told (suc i) (omega arith) ∙ ap (λ (p : ℕ). item_at s (entry_in s p)) there in
      let others = chosen-picked rest (at + 1) more in
      let here : at + 0 ≡ at = omega arith in
      let first : item ≡ item_at s (entry_in s at) = told 0 (omega arith) ∙ ap (λ (p : ℕ). item_at s (entry_in s p)) here in
      either (test item)
      (λ t. rw t (ap (λ (l : List Item). item_at s (entry_in s at) ∷ l) others ∙ ap (λ (x : Item). x ∷ chosen test rest) (sym first)))
      (λ t. rw t others)

  chosen-inside : (items : List Item) (at n : ℕ) → at + length items ≤ n → inside n (places_from test at items) ≡ true
  unfolding places_from inside
  chosen-inside [] at n h = refl
  chosen-inside (item ∷ rest) at n h =
      let others = chosen-inside rest (at + 1) n (omega arith) in
      let here : at < n = omega arith in
      either (test item) (λ t. rw (t, lt-ltb at n here) others) (λ t. rw t others)

-- the two outputs' room, asked for in either order
put_both :
    (count size room : ℕ) → size ≤ 262144 → (a : Bool)
    → cond a (on_put count (size_told size room)) (Err refusal.Short)
    ≡ cond (leb size room) (cond a (room_made size (count * count) count) (Err refusal.Short)) (Err refusal.Short)
unfolding size_told on_put
put_both count size room small a = rw (le-leb size 262144 small) (go a (leb size room))
  where
    go :
        (a b : Bool) → cond a (on_put count (cond b (Ok size) (Err refusal.Short))) (Err refusal.Short)
        ≡ cond b (cond a (room_made size (count * count) count) (Err refusal.Short)) (Err refusal.Short)
    go true true = refl
    go true false = refl
    go false true = refl
    go false false = refl

module _ (moment : ℕ) (s table : List ℕ) {n day version : ℕ} (o : Octets s) (is : opened_of s ≡ an_image n day version) where
  abbrev places : List ℕ
  places = kept_places moment (items_in s)

  kept-picked : picked s places ≡ kept moment (items_in s)
  kept-picked =
      let none : Item = item_at s (entry_in s 0) in
      chosen-picked (stays moment) s none (items_in s) 0
      (λ i h. let here : i ≡ 0 + i = omega arith in item_in s i none (omega (arith, length-items s)) ∙ ap (λ (p : ℕ). item_at s (entry_in s p)) here)

  pub kept-bytes : picked_bytes s places ≡ room_bytes moment s
  unfolding picked_bytes room_bytes
  kept-bytes = ap (λ (items : List Item). image_bytes (version_in s) items (day_in s)) kept-picked

  pub kept-many : length (kept moment (items_in s)) ≡ length places
  kept-many = ap length (sym kept-picked) ∙ picked-many s places

  pub kept_table : length (room_table moment s table) ≡ length places * length places
  unfolding room_table
  kept_table = lines_long (entry_count s) table places places

  kept-inside : inside n places ≡ true
  kept-inside = chosen-inside (stays moment) s (item_at s (entry_in s 0)) (items_in s) 0 n (omega (arith, length-items s, (opened-told 1 2 s n day version is).0))

  kept_small : length (room_bytes moment s) ≤ 262144
  unfolding room_bytes
  kept_small =
      let told = opened-told 1 2 s n day version is in
      let fits = (write_again s n day version o is).1 in
      rw (told.1, told.2) at (chosen-fits (stays moment) fits).small

  module _ (good : table_good n table ≡ true) (real : real_moment 1950 2099 moment ≡ true) (few : length places ≤ 96) (room more : ℕ) where
    pub put-made : put_of s places room more ≡ made_of s table moment room more
    unfolding put_of made_of on_opened picked_of on_picked
    put-made =
        let same = ap length kept-bytes in
        rw (is, good, real, le-leb _ _ few, kept-inside, same, kept_table, kept-many)
        (put_both (length places) (length (room_bytes moment s)) room kept_small (leb (length places * length places) more))

-- what is put for the places is what is said
pub record Put (moment : ℕ) (s table old more out lines : List ℕ) (r : Result Made Refusal) : Type 0 where
  pub answer : r ≡ made_of s table moment (length old) (length more)
  pub image : out ≡ image_out s table moment old more
  pub lined : lines ≡ table_out s table moment old more

pub put_all :
    (moment : ℕ) (s table old more : List ℕ) {n day version : ℕ} → Octets s → opened_of s ≡ an_image n day version
    → table_good n table ≡ true → real_moment 1950 2099 moment ≡ true → {places out lines : List ℕ} {r : Result Made Refusal}
    → places ≡ kept_places moment (items_in s) → length places ≤ 96 → r ≡ put_of s places (length old) (length more)
    → out ≡ on_made r (picked_bytes s places) old → lines ≡ on_made r (cut n table places) more
    → Put moment s table old more out lines r
unfolding image_out table_out room_table
put_all moment s table old more {n} {day} {version} o is good real {places} {out} {lines} {r} same few told image lined =
    let answer : r ≡ made_of s table moment (length old) (length more) =
    told ∙ ap (λ (l : List ℕ). put_of s l (length old) (length more)) same
    ∙ put-made moment s table o is good real (rw same at few) (length old) (length more) in
    let bytes : picked_bytes s places ≡ room_bytes moment s = ap (picked_bytes s) same ∙ kept-bytes moment s table o is in
    let count : n ≡ entry_count s = (opened-told 1 2 s n day version is).0 in
    let cuts : cut n table places ≡ cut (entry_count s) table (kept_places moment (items_in s)) =
    ap₂ (λ (m : ℕ) (l : List ℕ). cut m table l) count same in
    record {
      answer = answer;
      image = image ∙ ap₂ (λ (a : Result Made Refusal) (l : List ℕ). on_made a l old) answer bytes;
      lined = lined ∙ ap₂ (λ (a : Result Made Refusal) (l : List ℕ). on_made a l more) answer cuts;
    }
