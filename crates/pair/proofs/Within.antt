-- The entries that the rules let pass: each has its fields in their ranges, and its item lies within the image, before the index.
use Rattle.std.specs.Prelude.{Some}
use mathlib.Core.Path.{◌≡◌}
use mathlib.Core.Bool.{true, cond, and-eq-true_iff}
use mathlib.Core.List.{List}
use Prim.Native.Nat.{ℕ, zero, suc, ◌+◌, ◌*◌, ◌≤◌, ◌<◌}
use native.Mathlib.Omega.{arith}
use borrow.Author.Tests.{leb-true}
use lib.Dec.{leb, eqb}
use lib.ListN.{length}
use Rattle.image.specs.declared.IndexEntry.{IndexEntry}
use Rattle.image.specs.Index.{entry_at, entry_in, index_start, entry_count, version_in, width}
use Rattle.image.specs.Rules.{fields_good, sum_of, total_of}
use Rattle.image.specs.Answer.{opened_within}
use Rattle.roundtrip.proofs.Opening.{opened-holds}
use Rattle.roundtrip.proofs.Again.{passed, sum-grows}
use Rattle.image.proofs.Payloads.{an_image}

-- an item of at least one octet that ends by some offset
pub record Inside (end : ℕ) (e : IndexEntry) : Type 0 where
  pub some : 1 ≤ e.length
  pub ends : e.offset + e.length ≤ end

some-octet : (kind flags size : ℕ) → fields_good kind flags size ≡ true → 1 ≤ size
unfolding fields_good
some-octet kind flags size good =
    let a = (and-eq-true_iff (leb 1 kind) _).0 good in
    let b = (and-eq-true_iff (leb kind 4) _).0 a.1 in
    let c = (and-eq-true_iff (cond (eqb kind 1) (leb flags 1) (eqb flags 0)) _).0 b.1 in
    leb-true 1 size ((and-eq-true_iff (leb 1 size) _).0 c.1).0

entry-within :
    (version : ℕ) (s : List ℕ) (left at sum total place : ℕ) → place < left → sum_of version s at left sum ≡ Some total
    → Inside total (entry_at version s (at + width version * place))
entry-within version s zero at sum total place h e = absurd (omega arith)
entry-within version s (suc left) at sum total zero h e =
    let p = passed version s at left sum total e in
    let here : at + width version * 0 ≡ at = omega arith in
    let grown = sum-grows version s left (at + width version) _ total p.others in
    rw here (record { some = some-octet _ _ _ p.fields; ends = omega (arith, p.offset, grown) })
entry-within version s (suc left) at sum total (suc place) h e =
    let there : at + width version * suc place ≡ at + width version + width version * place = omega arith in
    rw there (entry-within version s left (at + width version) _ total place (omega arith) (passed version s at left sum total e).others)

-- of an image that is opened
pub entry-inside :
    (least most : ℕ) (s : List ℕ) (n day version place : ℕ) → opened_within least most s ≡ an_image n day version → place < n
    → Inside (length s) (entry_in s place)
unfolding entry_in total_of
entry-inside least most s n day version place e h =
    let (holds, entries, same, known) = opened-holds least most s n day version e in
    let i = entry-within (version_in s) s (entry_count s) (index_start s) 0 (index_start s) place (omega arith) holds.sums in
    record { some = i.some; ends = omega (arith, i.ends, holds.ends) }
