-- Each entry that was written is read back with its item, so the items are, and their lengths sum up.
use Rattle.std.specs.Prelude.{Some}
use mathlib.Core.Path.{◌≡◌, refl, sym, ◌∙◌, ap, ap₂}
use mathlib.Core.Bool.{true, cond, and-eq-true_iff}
use mathlib.Core.List.{List, ◌∷◌, ◌++◌, append_assoc}
use Prim.Native.Nat.{ℕ, ◌+◌, ◌-◌, ◌*◌, ◌/◌, ◌≤◌, ◌<◌}
use native.Mathlib.Omega.{arith}
use borrow.Author.Tests.{leb-true, eq-eqb}
use lib.Dec.{leb, eqb}
use lib.ListN.{length, take, drop, length-append}
use lib.Seq.{take_at, drop_at}
use Rattle.calendar.specs.Days.{real_day}
use Rattle.image.specs.declared.IndexEntry.{IndexEntry}
use Rattle.image.specs.Items.{Item, packed, entry_bytes, index_bytes, trailer_bytes, image_bytes}
use Rattle.image.specs.Index.{version_in, width, entry_at, item_at, items_from, items_in}
use Rattle.image.specs.Rules.{fields_good, entry_good, padded, sum_of, total_of}
use Rattle.image.specs.Answer.{opened_of}
use Rattle.image.proofs.Widths.{entry_length}
use Rattle.writer.specs.Writing.{version_good}
use Rattle.roundtrip.specs.Good.{GoodItems, no_item, good-item, Fits}
use Rattle.roundtrip.proofs.Fields.{drop-next}
use Rattle.roundtrip.proofs.Entries.{entry-at, padded-at, entry-back}
use Rattle.image.proofs.Sizes.{length-image, length-index}
use Rattle.roundtrip.proofs.Trailer.{Trailer, trailer_of, trailer-back}
use Rattle.roundtrip.proofs.Opening.{Holds, holds_opened}
use Rattle.image.proofs.Payloads.{an_image}

pub version-known : (version : ℕ) → version_good version ≡ true → (1 ≤ version) × (version ≤ 2)
unfolding version_good
version-known version e =
    let both = (and-eq-true_iff (leb 1 version) _).0 e in
    (leb-true 1 version both.0, leb-true version 2 both.1)

pub fields-small : (kind flags size : ℕ) → fields_good kind flags size ≡ true → size ≤ 16384
unfolding fields_good
fields-small kind flags size e =
    let kinds = ((and-eq-true_iff (leb 1 kind) _).0 e).1 in
    let rest = ((and-eq-true_iff (leb kind 4) _).0 kinds).1 in
    let sizes = ((and-eq-true_iff (cond (eqb kind 1) (leb flags 1) (eqb flags 0)) _).0 rest).1 in
    leb-true size 16384 ((and-eq-true_iff (leb 1 size) _).0 sizes).1

entry-good : (e : IndexEntry) (sum : ℕ) → fields_good e.kind e.flags e.length ≡ true → e.offset ≡ sum → entry_good e sum ≡ true
unfolding entry_good
entry-good e sum fields offset = rw (fields, eq-eqb _ _ offset)

-- the entry of an item that stands at an offset
abbrev entry_of : Item → ℕ → IndexEntry
entry_of item offset =
    record {
      kind = item.kind;
      flags = item.flags;
      length = length item.bytes;
      offset = offset;
      first = item.first;
      second = item.second;
    }

item-at :
    (s : List ℕ) (item : Item) (offset : ℕ) (after : List ℕ) → drop offset s ≡ item.bytes ++ after
    → item_at s (entry_of item offset) ≡ item
unfolding item_at
item-at s item offset after e =
    let size : ℕ = length item.bytes in
    λ i. record {
      kind = item.kind;
      flags = item.flags;
      bytes = (ap (take size) e ∙ take_at item.bytes after size refl) i;
      first = item.first;
      second = item.second;
    }

record Back (version : ℕ) (s : List ℕ) (items : List Item) (at offset : ℕ) : Type 0 where
  same : items_from version s at (length items) ≡ items
  sums : sum_of version s at (length items) offset ≡ Some (offset + length (packed items))

items_back :
    (version : ℕ) (s : List ℕ) {items : List Item} → GoodItems version items → (at offset : ℕ) (behind after : List ℕ)
    → drop at s ≡ index_bytes version offset items ++ behind → drop offset s ≡ packed items ++ after → offset + length (packed items) ≤ 262144
    → Back version s items at offset
unfolding items_from sum_of packed index_bytes
items_back version s no_item at offset behind after index octets limit = record { same = refl; sums = ap Some (omega arith) }
items_back version s (good-item {item} {rest} fields o pair letters good) at offset behind after index octets limit =
    let size : ℕ = length item.bytes in
    let e : IndexEntry = entry_of item offset in
    let front : List ℕ = entry_bytes version item.kind item.flags size offset item.first item.second in
    let others : List ℕ = index_bytes version (offset + size) rest in
    let joined : drop at s ≡ front ++ (others ++ behind) = index ∙ append_assoc front others behind in
    let parts : drop offset s ≡ item.bytes ++ (packed rest ++ after) = octets ∙ append_assoc item.bytes (packed rest) after in
    let long : offset + size + length (packed rest) ≡ offset + length (item.bytes ++ packed rest) =
    omega (arith, length-append item.bytes (packed rest)) in
    let small : size ≤ 16384 = fields-small _ _ _ fields in
    let told = entry-back version item.kind item.flags size offset item.first item.second (others ++ behind) (omega arith)
    (omega arith) letters in
    let entry : entry_at version s at ≡ e = entry-at version s at ∙ ap (λ (t : List ℕ). entry_at version t 0) joined ∙ told.0 in
    let blank : padded version s at ≡ true = padded-at version s at ∙ ap (λ (t : List ℕ). padded version t 0) joined ∙ told.1 in
    let index' : drop (at + width version) s ≡ others ++ behind =
    drop-next s front (others ++ behind) at (width version) joined (entry_length version _ _ size offset _ _) in
    let octets' : drop (offset + size) s ≡ packed rest ++ after = drop-next s item.bytes _ offset size parts refl in
    let next = items_back version s good (at + width version) (offset + size) behind after index' octets' (omega arith) in
    record {
      same = ap₂ ◌∷◌ (ap (item_at s) entry ∙ item-at s item offset _ parts) next.same;
      sums = rw (entry, blank, entry-good e offset fields refl) (next.sums ∙ ap Some long);
    }

day-low : (day : ℕ) → real_day 1950 2099 day ≡ true → day < 4294967296
unfolding real_day
day-low day e =
    let rest = ((and-eq-true_iff (leb 1950 (day / 10000)) _).0 e).1 in
    let year : day / 10000 ≤ 2099 = leb-true (day / 10000) 2099 ((and-eq-true_iff (leb (day / 10000) 2099) _).0 rest).0 in
    omega arith

pub image-back :
    (version : ℕ) (items : List Item) (day : ℕ) → Fits version items day
    → (opened_of (image_bytes version items day) ≡ an_image (length items) day version) × (items_in (image_bytes version items day) ≡ items)
    × (version_in (image_bytes version items day) ≡ version)
unfolding image_bytes items_in total_of trailer_of
image-back version items day f =
    let s : List ℕ = image_bytes version items day in
    let start : ℕ = length (packed items) in
    let n : ℕ = length items in
    let wide : ℕ = width version in
    let trailer : List ℕ = trailer_bytes version start n day in
    let long : length s ≡ start + wide * n + 12 = length-image version items day in
    let known = version-known version f.known in
    let few : n ≤ 96 = omega (arith, f.few) in
    let small : length s ≤ 262144 = omega (arith, f.small) in
    let at : length s - 12 ≡ start + wide * n = omega arith in
    let index : drop start s ≡ index_bytes version 0 items ++ trailer = drop_at (packed items) _ start refl in
    let last : drop (length s - 12) s ≡ trailer =
    rw at (drop-next s (index_bytes version 0 items) trailer start (wide * n) index (length-index version 0 items)) in
    let t : Trailer s start n version day =
    trailer-back s version start n day (omega arith) last (omega (arith, known)) (omega arith) (omega arith) (day-low day f.real) in
    let b : Back version s items start 0 = items_back version s f.good start 0 trailer _ index refl (omega arith) in
    let h : Holds 1 2 s = record {
      long = omega arith;
      short = small;
      from = omega (arith, t.version, known.0);
      to = omega (arith, t.version, known.1);
      few = rw t.entries few;
      real = rw t.day f.real;
      ends = rw (t.start, t.version, t.entries) (sym long);
      sums = rw (t.start, t.version, t.entries) (b.sums ∙ ap Some (omega arith));
    } in
    (holds_opened 1 2 s h ∙ rw (t.entries, t.day, t.version), rw (t.start, t.version, t.entries) b.same, t.version)
