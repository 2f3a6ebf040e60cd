-- The entry of a place is that of the item at that place, and its octets lie within the image.
use Rattle.std.specs.Prelude.{Some, Ok}
use mathlib.Core.Path.{◌≡◌, refl, sym}
use mathlib.Core.List.{List}
use Prim.Native.Nat.{ℕ, zero, suc, ◌+◌, ◌*◌, ◌≤◌, ◌<◌}
use native.Mathlib.Omega.{arith}
use borrow.Author.Tests.{lt-ltb}
use lib.ListN.{length, get_or, take, drop, length-drop}
use lib.Seq.{length-take-le}
use Rattle.image.specs.declared.IndexEntry.{IndexEntry}
use Rattle.image.specs.Items.{Item}
use Rattle.image.specs.Index.{entry_at, entry_in, item_at, items_in, index_start, entry_count, version_in, width}
use Rattle.image.specs.Rules.{sum_of, total_of}
use Rattle.image.specs.Answer.{opened_of, on_place, place_of, bytes_in, item_of}
use Rattle.image.proofs.Places.{item_from}
use Rattle.roundtrip.specs.Tells.{Tells}
use Rattle.roundtrip.proofs.Opening.{opened-holds}
use Rattle.roundtrip.proofs.Again.{passed, sum-grows}
use Rattle.image.proofs.Payloads.{an_image}

entry-within :
    (version : ℕ) (s : List ℕ) (left at sum total place : ℕ) → place < left → sum_of version s at left sum ≡ Some total
    → (entry_at version s (at + width version * place)).offset + (entry_at version s (at + width version * place)).length ≤ total
entry-within version s zero at sum total place h e = absurd (omega arith)
entry-within version s (suc left) at sum total zero h e =
    let p = passed version s at left sum total e in
    let here : at + width version * 0 ≡ at = omega arith in
    rw here (omega (arith, p.offset, sum-grows version s left (at + width version) _ total p.others))
entry-within version s (suc left) at sum total (suc place) h e =
    let there : at + width version * suc place ≡ at + width version + width version * place = omega arith in
    rw there (entry-within version s left (at + width version) _ total place (omega arith) (passed version s at left sum total e).others)

pub place-told :
    (s : List ℕ) (n day version place : ℕ) (default : Item) → opened_of s ≡ an_image n day version → place < n
    → (place_of s place ≡ Ok (entry_in s place)) × Tells (entry_in s place) (get_or (items_in s) place default)
    × (item_of s place ≡ (get_or (items_in s) place default).bytes)
unfolding place_of on_place item_of bytes_in items_in item_at entry_in total_of
place-told s n day version place default e h =
    let (holds, entries, same, known) = opened-holds 1 2 s n day version e in
    let one : IndexEntry = entry_in s place in
    let room : one.offset + one.length ≤ index_start s =
    entry-within (version_in s) s (entry_count s) (index_start s) 0 (index_start s) place (omega arith) holds.sums in
    let item : get_or (items_in s) place default ≡ item_at s one = item_from (version_in s) s (entry_count s) (index_start s) place default (omega arith) in
    let long : length (take one.length (drop one.offset s)) ≡ one.length =
    length-take-le one.length (drop one.offset s) (omega (arith, length-drop one.offset s, holds.ends)) in
    let there : place_of s place ≡ Ok one = rw (e, lt-ltb place n h) in
    (there, rw item (record { kind = refl; flags = refl; long = sym long; first = refl; second = refl }), rw (item, there))
