-- A list's columns cut its octets into the same items, so the writer takes them and writes its image.
use Rattle.std.specs.Prelude.{Result, Ok, Err}
use mathlib.Core.Path.{◌≡◌, refl, sym, ◌∙◌, ap, ap₂}
use mathlib.Core.Bool.{Bool, true, false, cond, ◌&&◌, and-eq-true_iff}
use mathlib.Core.List.{List, [], ◌∷◌, ◌++◌}
use Prim.Native.Nat.{ℕ, suc, ◌+◌, ◌*◌, ◌≤◌}
use native.Mathlib.Omega.{arith}
use borrow.Author.Tests.{le-leb, eq-eqb}
use lib.Dec.{leb, eqb}
use lib.ListN.{length, take, drop, length-append}
use lib.Seq.{take_at, drop_at}
use Rattle.image.specs.Items.{Item, packed, image_bytes}
use Rattle.image.specs.Index.{width}
use Rattle.refusal.specs.declared.Refusal.TheVariants.{Limit, Short}
use Rattle.calendar.specs.Days.{real_day}
use Rattle.refusal.specs.declared.Refusal.{Refusal}
use Rattle.writer.specs.Writing.{rows_good, sum_all, version_good, counts_good, zeros, letters_good, arguments_good, size_of, written_of, items_of}
use Rattle.roundtrip.specs.Good.{GoodItems, no_item, good-item, Fits}
use Rattle.roundtrip.specs.Columns.{kinds_of, flags_of, lengths_of, letters_of}
use Rattle.image.proofs.Sizes.{length-image}

pub columns-back :
    (items : List Item) → items_of (kinds_of items) (flags_of items) (lengths_of items) (letters_of items) (packed items) ≡ items
unfolding items_of kinds_of flags_of lengths_of letters_of packed
columns-back [] = refl
columns-back (item ∷ rest) =
    let size : ℕ = length item.bytes in
    let bytes : take size (item.bytes ++ packed rest) ≡ item.bytes = take_at item.bytes (packed rest) size refl in
    let others : items_of (kinds_of rest) (flags_of rest) (lengths_of rest) (letters_of rest) (drop size (item.bytes ++ packed rest)) ≡ rest =
    ap (items_of (kinds_of rest) (flags_of rest) (lengths_of rest) (letters_of rest)) (drop_at item.bytes (packed rest) size refl)
    ∙ columns-back rest in
    ap₂ ◌∷◌
    (λ i. record { kind = item.kind; flags = item.flags; bytes = bytes i; first = item.first; second = item.second })
    others

record Columns (version : ℕ) (items : List Item) : Type 0 where
  kinds : length (kinds_of items) ≡ length items
  flags : length (flags_of items) ≡ length items
  lengths : length (lengths_of items) ≡ length items
  letters : length (letters_of items) ≡ 2 * length items
  rows : rows_good (kinds_of items) (flags_of items) (lengths_of items) ≡ true
  sums : sum_all (lengths_of items) ≡ length (packed items)
  free : letters_good version (letters_of items) ≡ true

letters-join :
    (version first second : ℕ) (rest : List ℕ) → letters_good version (first ∷ second ∷ []) ≡ true → letters_good version rest ≡ true
    → letters_good version (first ∷ second ∷ rest) ≡ true
unfolding letters_good zeros
letters-join version first second rest pair e = go (eqb version 2) pair e
  where
    go :
        (b : Bool) → cond b true (eqb first 0 && (eqb second 0 && true)) ≡ true → cond b true (zeros rest) ≡ true
        → cond b true (eqb first 0 && (eqb second 0 && zeros rest)) ≡ true
    go true p e = refl
    go false p e =
        let one = (and-eq-true_iff (eqb first 0) _).0 p in
        let two = (and-eq-true_iff (eqb second 0) _).0 one.1 in
        rw (one.0, two.0, e)

no-letters : (version : ℕ) → letters_good version [] ≡ true
unfolding letters_good zeros
no-letters version = go (eqb version 2)
  where
    go : (b : Bool) → cond b true true ≡ true
    go true = refl
    go false = refl

columns : {version : ℕ} {items : List Item} → GoodItems version items → Columns version items
unfolding kinds_of flags_of lengths_of letters_of rows_good sum_all packed
columns {version} no_item =
    record { kinds = refl; flags = refl; lengths = refl; letters = refl; rows = refl; sums = refl; free = no-letters version }
columns {version} (good-item {item} {rest} fields o pair letters good) =
    let c = columns good in
    record {
      kinds = ap suc c.kinds;
      flags = ap suc c.flags;
      lengths = ap suc c.lengths;
      letters = omega (arith, c.letters);
      rows = rw (fields, c.rows);
      sums = omega (arith, c.sums, length-append item.bytes (packed rest));
      free = letters-join version item.first item.second (letters_of rest) letters c.free;
    }

-- what the writer answers where nothing but the size may be refused
abbrev pub sized_of : ℕ → ℕ → Result ℕ Refusal
sized_of size room = cond (leb size 262144) (cond (leb size room) (Ok size) (Err Short)) (Err (Limit 0))

-- the columns of good items are refused for their size only
pub columns-sized :
    (version : ℕ) (items : List Item) (day room : ℕ) → version_good version ≡ true → GoodItems version items → length items ≤ 96
    → real_day 1950 2099 day ≡ true
    → written_of version (packed items) (kinds_of items) (flags_of items) (lengths_of items) (letters_of items) day room
    ≡ sized_of (length (image_bytes version items day)) room
unfolding written_of arguments_good counts_good size_of
columns-sized version items day room known good few real =
    let c = columns good in
    let size : length (packed items) + width version * length items + 12 ≡ length (image_bytes version items day) =
    sym (length-image version items day) in
    rw (c.kinds, c.flags, c.lengths, c.letters, known, real, c.rows, c.sums, c.free, size)
    (simp (
      le-leb _ _ few,
      eq-eqb (length items) _ refl,
      eq-eqb (2 * length items) _ refl,
      eq-eqb (length (packed items)) _ refl,
    ))

pub columns-written :
    (version : ℕ) (items : List Item) (day room : ℕ) → Fits version items day → length (image_bytes version items day) ≤ room
    → written_of version (packed items) (kinds_of items) (flags_of items) (lengths_of items) (letters_of items) day room
    ≡ Ok (length (image_bytes version items day))
columns-written version items day room f h =
    columns-sized version items day room f.known f.good f.few f.real ∙ rw (le-leb _ _ f.small, le-leb _ _ h)
