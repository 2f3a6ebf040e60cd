-- A table cut to some places, octet by octet.
use Prim.Native.Nat.{ℕ, zero, suc, ◌+◌, ◌*◌, ◌/◌, ◌%◌, ◌<◌, ◌≤◌}
use mathlib.Core.Path.{◌≡◌, refl, sym, ap, ◌∙◌}
use mathlib.Core.Bool.{true}
use mathlib.Core.List.{List, [], ◌∷◌, ◌++◌}
use native.Mathlib.Omega.{arith}
use native.Mathlib.Nat.{div-add-mod', mod-lt, div-lt_iff_lt-mul}
use borrow.Author.Tests.{leb-true, le-leb, eq-eqb}
use lib.Dec.{leb, eqb}
use lib.ListN.{length, get_or, length-append, get_or-append}
use lib.Seq.{get_or-append-add, ext_get_or}
use Rattle.usable.specs.Table.{verdict_in, bits, table_good}
use Rattle.usable.proofs.Booleans.{first, second, both_true}
use Rattle.room.specs.Kept.{cut_line, cut_lines, cut}

module _ (n : ℕ) (table : List ℕ) where
  line-long : (row : ℕ) (columns : List ℕ) → length (cut_line n table row columns) ≡ length columns
  unfolding cut_line
  line-long row [] = refl
  line-long row (column ∷ rest) = ap suc (line-long row rest)

  line_at :
      (row : ℕ) (columns : List ℕ) (k : ℕ) → k < length columns
      → get_or (cut_line n table row columns) k 0 ≡ get_or table (row * n + get_or columns k 0) 0
  unfolding cut_line
  line_at row [] k h = absurd (omega arith)
  line_at row (column ∷ rest) zero h = refl
  line_at row (column ∷ rest) (suc k) h = line_at row rest k (omega arith)

  module _ (columns : List ℕ) where
    pub lines_long : (rows : List ℕ) → length (cut_lines n table columns rows) ≡ length rows * length columns
    unfolding cut_lines
    lines_long [] = omega arith
    lines_long (row ∷ rest) =
        omega (
          arith,
          length-append (cut_line n table row columns) (cut_lines n table columns rest),
          line-long row columns,
          lines_long rest,
        )

    pub lines_at :
        (rows : List ℕ) (j k : ℕ) → j < length rows → k < length columns
        → get_or (cut_lines n table columns rows) (j * length columns + k) 0 ≡ get_or table (get_or rows j 0 * n + get_or columns k 0) 0
    unfolding cut_lines
    lines_at [] j k h l = absurd (omega arith)
    lines_at (row ∷ rest) zero k h l =
        let here : 0 * length columns + k ≡ k = omega arith in
        rw here
        (get_or-append (cut_line n table row columns) (cut_lines n table columns rest) 0 k (rw (line-long row columns) l)
        ∙ line_at row columns k l)
    lines_at (row ∷ rest) (suc j) k h l =
        let there : suc j * length columns + k ≡ length (cut_line n table row columns) + (j * length columns + k) =
        omega (arith, line-long row columns) in
        rw there
        (get_or-append-add (cut_line n table row columns) (cut_lines n table columns rest) (j * length columns + k) 0
        ∙ lines_at rest j k (omega arith) l)

-- each octet of a table of 0 and 1, and none beyond it, is 0 or 1
bits_at : (table : List ℕ) (i : ℕ) → bits table ≡ true → get_or table i 0 ≤ 1
unfolding bits
bits_at [] i e = omega arith
bits_at (x ∷ rest) zero e = leb-true x 1 (first (leb x 1) (bits rest) e)
bits_at (x ∷ rest) (suc i) e = bits_at rest i (second (leb x 1) (bits rest) e)

bits-join : (a b : List ℕ) → bits a ≡ true → bits b ≡ true → bits (a ++ b) ≡ true
unfolding bits
bits-join [] b e f = f
bits-join (x ∷ rest) b e f =
    both_true (leb x 1) (bits (rest ++ b)) (first (leb x 1) (bits rest) e) (bits-join rest b (second (leb x 1) (bits rest) e) f)

module _ (n : ℕ) (table : List ℕ) (good : bits table ≡ true) where
  line-bits : (row : ℕ) (columns : List ℕ) → bits (cut_line n table row columns) ≡ true
  unfolding cut_line bits
  line-bits row [] = refl
  line-bits row (column ∷ rest) = rw (le-leb _ 1 (bits_at table (row * n + column) good)) (line-bits row rest)

  lines-bits : (columns rows : List ℕ) → bits (cut_lines n table columns rows) ≡ true
  unfolding cut_lines bits
  lines-bits columns [] = refl
  lines-bits columns (row ∷ rest) = bits-join (cut_line n table row columns) (cut_lines n table columns rest) (line-bits row columns) (lines-bits columns rest)

-- A table of 0 and 1, cut, is a good table for as many places.
pub cut-good : (n m : ℕ) (table places : List ℕ) → table_good n table ≡ true → length places ≡ m → table_good m (cut n table places) ≡ true
unfolding table_good
cut-good n m table places good many =
    let fine : bits table ≡ true = second (eqb (length table) (n * n)) (bits table) good in
    let long : length (cut n table places) ≡ m * m = lines_long n table places places ∙ ap (λ (k : ℕ). k * k) many in
    rw (eq-eqb _ _ long) (lines-bits n table fine places places)

-- The verdict for two of the places is what it was.
pub cut-verdict :
    (n m : ℕ) (table places : List ℕ) (j k : ℕ) → length places ≡ m → j < m → k < m
    → verdict_in m (cut n table places) j k ≡ verdict_in n table (get_or places j 0) (get_or places k 0)
unfolding verdict_in
cut-verdict n m table places j k many h l =
    let at : get_or (cut n table places) (j * length places + k) 0 ≡ get_or table (get_or places j 0 * n + get_or places k 0) 0 =
    lines_at n table places places j k (rw many h) (rw many l) in
    ap (λ (x : ℕ). eqb x 1) (rw many at at)

-- Cut to all places a table stays as it is.
pub cut_all :
    (n : ℕ) (table places : List ℕ) → length table ≡ n * n → length places ≡ n
    → ((k : ℕ) → k < n → get_or places k 0 ≡ k) → cut n table places ≡ table
cut_all n table places whole many same =
    let long : length (cut n table places) ≡ n * n = lines_long n table places places ∙ ap (λ (k : ℕ). k * k) many in
    ext_get_or 0 (cut n table places) table (long ∙ sym whole) λ i h.
    let inside : i < n * n = rw long at h in
    let some : 0 < n = positive i inside in
    let row : ℕ = i / n in
    let column : ℕ = i % n in
    let rows : row < n = (div-lt_iff_lt-mul some).1 inside in
    let columns : column < n = mod-lt i some in
    let is : row * n + column ≡ i = div-add-mod' i n in
    let at : get_or (cut n table places) (row * length places + column) 0 ≡ get_or table (get_or places row 0 * n + get_or places column 0) 0 =
    lines_at n table places places row column (rw many rows) (rw many columns) in
    let here : get_or (cut n table places) (row * n + column) 0 ≡ get_or table (row * n + column) 0 =
    rw (many, same row rows, same column columns) at at in
    rw is at here
  where
    positive : (i : ℕ) → i < n * n → 0 < n
    positive i h = go n h
      where
        go : (m : ℕ) → i < m * m → 0 < m
        go zero l = absurd (omega arith)
        go (suc m) l = omega arith
