-- The items of an image that stay fit into one, so what is written of them is read again; and a question that was good for a signer that
-- stays is good for it under its new number.
use Prim.Native.Nat.{ℕ, ◌<◌}
use mathlib.Core.Path.{◌≡◌, sym, ap₂, ◌∙◌}
use mathlib.Core.Bool.{true}
use mathlib.Core.List.{List}
use borrow.Author.Tests.{lt-ltb, eq-eqb}
use lib.ListN.{length}
use Rattle.octets.specs.Octets.{Octets}
use Rattle.calendar.specs.Days.{real_moment}
use Rattle.image.specs.Items.{Item, image_bytes}
use Rattle.image.specs.Index.{entry_count, version_in, day_in, entry_in, items_in}
use Rattle.image.specs.Answer.{opened_of}
use Rattle.roundtrip.proofs.Opening.{opened-holds}
use Rattle.roundtrip.proofs.Theorems.{read_back, write_again, place-item}
use Rattle.usable.specs.Items.{item_at}
use Rattle.usable.specs.Table.{table_good}
use Rattle.chain.specs.Answer.{on_image, asked_of}
use Rattle.room.specs.Kept.{stays, kept}
use Rattle.room.specs.Making.{room_bytes}
use Rattle.room.proofs.Fitting.{chosen-fits}
use Rattle.image.proofs.Payloads.{an_image}
use Rattle.chain.proofs.Payloads.{a_question}

-- what is read of an image in which room was made
pub record Reads (moment : ℕ) (s : List ℕ) (day version : ℕ) : Type 0 where
  pub opened : opened_of (room_bytes moment s) ≡ an_image (length (kept moment (items_in s))) day version
  pub items : items_in (room_bytes moment s) ≡ kept moment (items_in s)
  pub entries : entry_count (room_bytes moment s) ≡ length (kept moment (items_in s))
  pub same-day : day_in (room_bytes moment s) ≡ day_in s
  pub same_version : version_in (room_bytes moment s) ≡ version_in s

pub room-reads :
    (moment : ℕ) {s : List ℕ} {n day version : ℕ} → Octets s → opened_of s ≡ an_image n day version → Reads moment s day version
unfolding room_bytes
room-reads moment {s} {n} {day} {version} o e =
    let items : List Item = kept moment (items_in s) in
    let (again, fits, many) = write_again s n day version o e in
    let (holds, entries, told, known) = opened-holds 1 2 s n day version e in
    let same : image_bytes version items day ≡ room_bytes moment s = ap₂ (λ (v d : ℕ). image_bytes v items d) known told in
    let (opened, read, is) = rw same at (read_back version items day (chosen-fits (stays moment) fits)) in
    let (held, count, day-is, version-is) = opened-holds 1 2 (room_bytes moment s) (length items) day version opened in
    record {
      opened = opened;
      items = read;
      entries = sym count;
      same-day = sym day-is ∙ told;
      same_version = is ∙ known;
    }

-- a good question
pub good-question :
    (s : List ℕ) {n day version : ℕ} → opened_of s ≡ an_image n day version → (table : List ℕ) → table_good n table ≡ true → (moment : ℕ)
    → real_moment 1950 2099 moment ≡ true → (p : ℕ) → p < n → (item_at (items_in s) p).kind ≡ 3
    → asked_of s table moment p ≡ a_question n version
unfolding asked_of on_image item_at
good-question s {n} {day} {version} e table good moment real p below three =
    let kind : (entry_in s p).kind ≡ 3 = (place-item s n day version p _ e below).1.kind ∙ three in
    rw (e, good, real, lt-ltb p n below, eq-eqb _ _ kind)
