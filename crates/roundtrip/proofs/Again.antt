-- The entries that the rules let pass are those that their items are written with, one behind the other.
use Rattle.std.specs.Prelude.{Some, None}
use mathlib.Core.Path.{◌≡◌, refl, sym, ◌∙◌, ap, ap₂}
use mathlib.Core.Bool.{Bool, true, false, cond, ◌&&◌, and-eq-true_iff}
use mathlib.Core.List.{List, [], ◌∷◌, ◌++◌, append_assoc}
use Prim.Native.Nat.{ℕ, zero, suc, ◌+◌, ◌-◌, ◌*◌, ◌≤◌, ◌<◌}
use native.Mathlib.Omega.{arith}
use borrow.Author.Tests.{eqb-true, le-leb}
use lib.Dec.{eqb}
use lib.ListN.{length, take, drop, length-append, length-drop, take-append-drop}
use lib.Seq.{drop-drop, length-take-le}
use Rattle.octets.specs.Octets.{Octets, no-octet, octet}
use Rattle.tree.proofs.Cases.{by-test}
use Rattle.tree.proofs.Numbers.{octets-take, octets-drop}
use Rattle.image.specs.declared.IndexEntry.{IndexEntry}
use Rattle.image.specs.Items.{Item, packed, entry_bytes, index_bytes, trailer_bytes, image_bytes}
use Rattle.image.specs.Index.{field, letter_at, entry_at, item_at, items_from, items_in, index_start, entry_count, version_in, day_in, width}
use Rattle.image.specs.Rules.{fields_good, entry_good, padded, sum_of, total_of}
use Rattle.writer.specs.Writing.{version_good, zeros, letters_good}
use Rattle.roundtrip.specs.Good.{GoodItems, no_item, good-item, Fits}
use Rattle.roundtrip.proofs.Fields.{field-octet}
use Rattle.roundtrip.proofs.Entries.{entry_octets, entry-again}
use Rattle.roundtrip.proofs.Trailer.{trailer_of, trailer-again}
use Rattle.roundtrip.proofs.Opening.{Holds}

-- an entry that passed, and the sum behind it
pub record Passed (version : ℕ) (s : List ℕ) (at left sum total : ℕ) : Type 0 where
  pub fields : fields_good (entry_at version s at).kind (entry_at version s at).flags (entry_at version s at).length ≡ true
  pub offset : (entry_at version s at).offset ≡ sum
  pub blank : padded version s at ≡ true
  pub others : sum_of version s (at + width version) left (sum + (entry_at version s at).length) ≡ Some total

pub passed :
    (version : ℕ) (s : List ℕ) (at left sum total : ℕ) → sum_of version s at (suc left) sum ≡ Some total
    → Passed version s at left sum total
unfolding sum_of entry_good
passed version s at left sum total e =
    let one : IndexEntry = entry_at version s at in
    by-test (entry_good one sum && padded version s at)
    (λ t. let both = (and-eq-true_iff (entry_good one sum) _).0 t in
    let good = (and-eq-true_iff (fields_good one.kind one.flags one.length) _).0 both.0 in
    record { fields = good.0; offset = eqb-true _ _ good.1; blank = both.1; others = rw t at e })
    λ f. let unfit : None ≡ Some total = rw f at e in
    let z : ◌≡◌ {A = ℕ} 0 1 = cc in
    absurd (omega arith)

pub sum-grows : (version : ℕ) (s : List ℕ) (left at sum total : ℕ) → sum_of version s at left sum ≡ Some total → sum ≤ total
unfolding sum_of
sum-grows version s zero at sum total e = let same : sum ≡ total = cc in omega arith
sum-grows version s (suc left) at sum total e =
    omega (
      arith,
      sum-grows version s left (at + width version) (sum + (entry_at version s at).length) total (passed version s at left sum total e).others,
    )

-- letters that were read are two octets, and zeros where the version has none
letters-read :
    (version : ℕ) {s : List ℕ} → Octets s → (at : ℕ)
    → Octets ((entry_at version s at).first ∷ (entry_at version s at).second ∷ [])
    × (letters_good version ((entry_at version s at).first ∷ (entry_at version s at).second ∷ []) ≡ true)
unfolding entry_at letter_at letters_good zeros
letters-read version {s} o at = go (eqb version 2)
  where
    go :
        (b : Bool)
        → Octets (cond b (field s (at + 8) 1) 0 ∷ cond b (field s (at + 9) 1) 0 ∷ [])
        × (cond b true (zeros (cond b (field s (at + 8) 1) 0 ∷ cond b (field s (at + 9) 1) 0 ∷ [])) ≡ true)
    go true = (octet (field-octet o (at + 8)) (octet (field-octet o (at + 9)) no-octet), refl)
    go false = let small : 0 < 256 = omega arith in (octet {o = 0} small (octet {o = 0} small no-octet), refl)

pub record Again (version : ℕ) (s : List ℕ) (items : List Item) (at left sum total : ℕ) : Type 0 where
  pub many : length items ≡ left
  pub good : GoodItems version items
  pub octets : packed items ++ drop total s ≡ drop sum s
  pub index : index_bytes version sum items ++ drop (at + width version * left) s ≡ drop at s

cut : (s : List ℕ) (at n : ℕ) → take n (drop at s) ++ drop (at + n) s ≡ drop at s
cut s at n = ap (λ (l : List ℕ). take n (drop at s) ++ l) (sym (drop-drop n at s)) ∙ take-append-drop n (drop at s)

items-again :
    (version : ℕ) (s : List ℕ) → Octets s → (left at sum total : ℕ) → at + width version * left ≤ length s → total ≤ length s
    → sum_of version s at left sum ≡ Some total → Again version s (items_from version s at left) at left sum total
unfolding sum_of items_from item_at packed index_bytes entry_octets
items-again version s o zero at sum total room limit e =
    let same : sum ≡ total = cc in
    let here : at + width version * 0 ≡ at = omega arith in
    record { many = refl; good = no_item; octets = ap (λ (n : ℕ). drop n s) (sym same); index = ap (λ (n : ℕ). drop n s) here }
items-again version s o (suc left) at sum total room limit e =
    let wide : ℕ = width version in
    let one : IndexEntry = entry_at version s at in
    let size : ℕ = one.length in
    let p = passed version s at left sum total e in
    let next = items-again version s o left (at + wide) (sum + size) total (omega arith) limit p.others in
    let grown : sum + size ≤ total = sum-grows version s left (at + wide) (sum + size) total p.others in
    let bytes : List ℕ = take size (drop one.offset s) in
    let place : one.offset ≡ sum = p.offset in
    let long : length bytes ≡ size = length-take-le size (drop one.offset s) (omega (arith, length-drop one.offset s)) in
    let fields : fields_good one.kind one.flags (length bytes) ≡ true = rw long p.fields in
    let others : List Item = items_from version s (at + wide) left in
    let last : List ℕ = drop (at + wide * suc left) s in
    let ends : at + wide * suc left ≡ at + wide + wide * left = omega arith in
    let tail : index_bytes version (sum + size) others ++ last ≡ drop (at + wide) s = rw ends next.index in
    let written : ℕ → ℕ → List ℕ = λ n at. entry_bytes version one.kind one.flags n at one.first one.second in
    let entry : written size sum ≡ take wide (drop at s) =
    ap (written size) (sym place) ∙ entry-again version o at (omega arith) p.blank in
    let letters = letters-read version o at in
    record {
      many = ap suc next.many;
      good = good-item fields (octets-take size (octets-drop one.offset o)) letters.0 letters.1 next.good;
      octets =
          append_assoc bytes (packed others) (drop total s) ∙ ap (λ (l : List ℕ). bytes ++ l) next.octets
          ∙ ap (λ (n : ℕ). take size (drop n s) ++ drop (sum + size) s) place ∙ cut s sum size;
      index =
          ap (λ (n : ℕ). (written n sum ++ index_bytes version (sum + n) others) ++ last) long
          ∙ append_assoc (written size sum) (index_bytes version (sum + size) others) last
          ∙ ap₂ ◌++◌ entry tail ∙ cut s at wide;
    }

pub image-again :
    (s : List ℕ) → Octets s → Holds 1 2 s
    → (image_bytes (version_in s) (items_in s) (day_in s) ≡ s) × Fits (version_in s) (items_in s) (day_in s)
unfolding image_bytes items_in total_of trailer_of version_good
image-again s o h =
    let version : ℕ = version_in s in
    let wide : ℕ = width version in
    let start : ℕ = index_start s in
    let n : ℕ = entry_count s in
    let ends : start + wide * n + 12 ≡ length s = h.ends in
    let a : Again version s (items_in s) start n 0 start = items-again version s o n start 0 start (omega arith) (omega arith) h.sums in
    let items : List Item = items_in s in
    let last : length s - 12 ≡ start + wide * n = omega arith in
    let front : packed items ++ drop start s ≡ s = a.octets in
    let long : length (packed items) ≡ start =
    omega (arith, length-append (packed items) (drop start s), length-drop start s, ap length front) in
    let trailer : trailer_bytes version (length (packed items)) (length items) (day_in s) ≡ drop (start + wide * n) s =
    rw (long, a.many, ← last) (trailer-again s o h.long) in
    let same : image_bytes version items (day_in s) ≡ s =
    ap (λ (l : List ℕ). packed items ++ (index_bytes version 0 items ++ l)) trailer ∙ ap (λ (l : List ℕ). packed items ++ l) a.index
    ∙ front in
    let known : version_good version ≡ true = rw (le-leb 1 version h.from, le-leb version 2 h.to) in
    let small : length (image_bytes version items (day_in s)) ≤ 262144 = omega (arith, ap length same, h.short) in
    (same, record { known = known; good = a.good; few = omega (arith, a.many, h.few); real = h.real; small = small })
