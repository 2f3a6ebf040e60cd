-- The columns item by item, and the image that they make: each entry has the octets of its version, and lengths that sum to
-- the packed octets cut those into items that are all of them.
use Prim.Native.Nat.{ℕ, suc, ◌+◌, ◌*◌, ◌≤◌, ◌<◌}
use mathlib.Core.Path.{◌≡◌, refl, ap, sym, ◌∙◌}
use mathlib.Core.Bool.{Bool, true, false, ◌&&◌}
use mathlib.Core.List.{List, [], ◌∷◌, ◌++◌}
use native.Mathlib.Nat.{add-zero}
use native.Mathlib.Numerals.{add-one}
use native.Mathlib.Omega.{arith}
use borrow.Author.Tests.{leb-true, eqb-true}
use lib.Dec.{leb, eqb}
use lib.ListN.{length, get_or, take, drop, length-append, length-drop, take-append-drop, drop_of_length-le}
use lib.Seq.{drop-cons, drop-drop, get_or-drop, length-take-le}
use Rattle.calendar.specs.Days.{real_day}
use Rattle.image.specs.Items.{packed, entry_bytes, index_bytes, trailer_bytes, image_bytes}
use Rattle.image.specs.Index.{width}
use Rattle.image.specs.Rules.{fields_good}
use Rattle.image.proofs.Widths.{entry_length}
use Rattle.writer.specs.Rows.{rows_bytes}
use Rattle.writer.specs.Writing.{rows_good, sum_all, version_good, counts_good, zeros, letters_good, arguments_good, items_of}

head_at : (l : List ℕ) (i : ℕ) → get_or (drop i l) 0 0 ≡ get_or l i 0
head_at l i = get_or-drop i l 0 0 ∙ ap (λ (n : ℕ). get_or l n 0) (add-zero i)

module _ (kinds flags lengths : List ℕ) (i : ℕ) (more : i < length kinds) where
  pub good-next :
      rows_good (drop i kinds) (drop i flags) (drop i lengths)
      ≡ (fields_good (get_or kinds i 0) (get_or flags i 0) (get_or lengths i 0)
      && rows_good (drop (i + 1) kinds) (drop (i + 1) flags) (drop (i + 1) lengths))
  unfolding rows_good
  good-next =
      rw (add-one i, drop-cons kinds i 0 more, head_at flags i, head_at lengths i, drop-drop 1 i flags, drop-drop 1 i lengths, add-one i)

  pub rows_next : (letters : List ℕ) (version offset : ℕ) →
      rows_bytes version offset (drop i kinds) (drop i flags) (drop i lengths) (drop (2 * i) letters)
      ≡ entry_bytes version (get_or kinds i 0) (get_or flags i 0) (get_or lengths i 0) offset (get_or letters (2 * i) 0) (get_or letters (2 * i + 1) 0)
      ++ rows_bytes version (offset + get_or lengths i 0) (drop (i + 1) kinds) (drop (i + 1) flags) (drop (i + 1) lengths)
      (drop (2 * (i + 1)) letters)
  unfolding rows_bytes
  rows_next letters version offset =
      let pair : 2 * i + 2 ≡ 2 * suc i = omega arith in
      rw (
        add-one i,
        drop-cons kinds i 0 more,
        head_at flags i,
        head_at lengths i,
        head_at letters (2 * i),
        get_or-drop (2 * i) letters 1 0,
        drop-drop 1 i flags,
        drop-drop 1 i lengths,
        drop-drop 2 (2 * i) letters,
        add-one i,
        pair,
      )

pub sum-next :
    (lengths : List ℕ) (i : ℕ) → i < length lengths → sum_all (drop i lengths) ≡ get_or lengths i 0 + sum_all (drop (i + 1) lengths)
unfolding sum_all
sum-next lengths i h = rw (add-one i, drop-cons lengths i 0 h)

pub rows-length :
    (version : ℕ) (kinds flags lengths letters : List ℕ) (offset : ℕ)
    → length (rows_bytes version offset kinds flags lengths letters) ≡ width version * length kinds
unfolding rows_bytes
rows-length version [] flags lengths letters offset = omega arith
rows-length version (kind ∷ rest) flags lengths letters offset =
    let size = get_or lengths 0 0 in
    rw (
      length-append (entry_bytes version kind (get_or flags 0 0) size offset (get_or letters 0 0) (get_or letters 1 0)),
      entry_length version kind (get_or flags 0 0) size offset (get_or letters 0 0) (get_or letters 1 0),
    )
    (omega (arith, rows-length version rest (drop 1 flags) (drop 1 lengths) (drop 2 letters) (offset + size)))

and_assoc : (a b c : Bool) → ((a && b) && c) ≡ (a && (b && c))
and_assoc true b c = refl
and_assoc false b c = refl

and-true-right : (a : Bool) → (a && true) ≡ a
and-true-right true = refl
and-true-right false = refl

and-true : (a b : Bool) → (a && b) ≡ true → (a ≡ true) × (b ≡ true)
and-true true b e = (refl, e)
and-true false b e = let z : ◌≡◌ {A = ℕ} 0 1 = cc in absurd (omega arith)

-- what columns tell that are equally many
pub record Counted (kinds flags lengths letters : List ℕ) : Type 0 where
  pub few : length kinds ≤ 96
  pub flagged : length flags ≡ length kinds
  pub long : length lengths ≡ length kinds
  pub lettered : length letters ≡ 2 * length kinds

pub counts-tell : (kinds flags lengths letters : List ℕ) → counts_good kinds flags lengths letters ≡ true → Counted kinds flags lengths letters
unfolding counts_good
counts-tell kinds flags lengths letters e =
    let few = and-true (leb (length kinds) 96) _ e in
    let flagged = and-true (eqb (length flags) (length kinds)) _ few.1 in
    let long = and-true (eqb (length lengths) (length kinds)) _ flagged.1 in
    record {
      few = leb-true _ _ few.0;
      flagged = eqb-true _ _ flagged.0;
      long = eqb-true _ _ long.0;
      lettered = eqb-true _ _ long.1;
    }

-- what arguments tell that are good
pub record Told (version : ℕ) (octets kinds flags lengths letters : List ℕ) (day : ℕ) : Type 0 where
  pub known : version_good version ≡ true
  pub real : real_day 1950 2099 day ≡ true
  pub counted : Counted kinds flags lengths letters
  pub rows : rows_good kinds flags lengths ≡ true
  pub sums : sum_all lengths ≡ length octets
  pub free : letters_good version letters ≡ true

pub arguments-tell :
    (version : ℕ) (octets kinds flags lengths letters : List ℕ) (day : ℕ)
    → arguments_good version octets kinds flags lengths letters day ≡ true → Told version octets kinds flags lengths letters day
unfolding arguments_good
arguments-tell version octets kinds flags lengths letters day e =
    let a = and-true (version_good version) _ e in
    let b = and-true (real_day 1950 2099 day) _ a.1 in
    let c = and-true (counts_good kinds flags lengths letters) _ b.1 in
    let d = and-true (rows_good kinds flags lengths) _ c.1 in
    let f = and-true (eqb (sum_all lengths) (length octets)) _ d.1 in
    record {
      known = a.0;
      real = b.0;
      counted = counts-tell kinds flags lengths letters c.0;
      rows = d.0;
      sums = eqb-true _ _ f.0;
      free = f.1;
    }

packed-items :
    (kinds flags lengths letters octets : List ℕ) → length lengths ≡ length kinds → sum_all lengths ≡ length octets
    → packed (items_of kinds flags lengths letters octets) ≡ octets
unfolding packed items_of sum_all
packed-items [] flags [] letters [] n s = refl
packed-items [] flags [] letters (o ∷ octets) n s = absurd (omega arith)
packed-items [] flags (x ∷ lengths) letters octets n s = absurd (omega arith)
packed-items (kind ∷ kinds) flags [] letters octets n s = absurd (omega arith)
packed-items (kind ∷ kinds) flags (x ∷ lengths) letters octets n s =
    let left : sum_all lengths ≡ length (drop x octets) = rw length-drop (omega arith) in
    ap (λ (l : List ℕ). take x octets ++ l) (packed-items kinds (drop 1 flags) lengths (drop 2 letters) (drop x octets) (omega arith) left)
    ∙ take-append-drop x octets

index-items :
    (version : ℕ) (kinds flags lengths letters octets : List ℕ) (offset : ℕ) → length lengths ≡ length kinds
    → sum_all lengths ≡ length octets
    → index_bytes version offset (items_of kinds flags lengths letters octets) ≡ rows_bytes version offset kinds flags lengths letters
unfolding index_bytes items_of rows_bytes sum_all
index-items version [] flags lengths letters octets offset n s = refl
index-items version (kind ∷ kinds) flags [] letters octets offset n s = absurd (omega arith)
index-items version (kind ∷ kinds) flags (x ∷ lengths) letters octets offset n s =
    let some : x ≤ length octets = omega arith in
    let left : sum_all lengths ≡ length (drop x octets) = rw length-drop (omega arith) in
    rw (length-take-le x octets some, index-items version kinds (drop 1 flags) lengths (drop 2 letters) (drop x octets) (offset + x) (omega arith) left)

count-items : (kinds flags lengths letters octets : List ℕ) → length (items_of kinds flags lengths letters octets) ≡ length kinds
unfolding items_of
count-items [] flags lengths letters octets = refl
count-items (kind ∷ kinds) flags lengths letters octets =
    ap suc (count-items kinds (drop 1 flags) (drop 1 lengths) (drop 2 letters) (drop (get_or lengths 0 0) octets))

pub image-of :
    (version : ℕ) (octets kinds flags lengths letters : List ℕ) (day : ℕ) → length lengths ≡ length kinds → sum_all lengths ≡ length octets
    → image_bytes version (items_of kinds flags lengths letters octets) day
    ≡ octets ++ (rows_bytes version 0 kinds flags lengths letters ++ trailer_bytes version (length octets) (length kinds) day)
unfolding image_bytes
image-of version octets kinds flags lengths letters day n s =
    rw (
      packed-items kinds flags lengths letters octets n s,
      index-items version kinds flags lengths letters octets 0 n s,
      count-items kinds flags lengths letters octets,
    )

-- one octet more, and none
pub zeros-kept :
    (letters : List ℕ) (i : ℕ) (good : Bool) → i < length letters
    → (good && zeros (drop i letters)) ≡ ((good && eqb (get_or letters i 0) 0) && zeros (drop (i + 1) letters))
unfolding zeros
zeros-kept letters i good h = rw (add-one i, drop-cons letters i 0 h) (sym (and_assoc good (eqb (get_or letters i 0) 0) (zeros (drop (suc i) letters))))

pub zeros-all : (letters : List ℕ) (i : ℕ) (good : Bool) → length letters ≤ i → (good && zeros (drop i letters)) ≡ good
unfolding zeros
zeros-all letters i good h = rw (drop_of_length-le letters h) (and-true-right good)
