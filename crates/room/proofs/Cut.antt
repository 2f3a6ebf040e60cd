-- The lines of a cut table, one by one.
use Prim.Native.Nat.{ℕ, zero, suc, ◌+◌, ◌-◌, ◌*◌, ◌≤◌, ◌<◌}
use mathlib.Core.Path.{◌≡◌, refl, sym}
use mathlib.Core.List.{List, [], ◌∷◌, ◌++◌, append_assoc, append-nil}
use native.Mathlib.Nat.{mul-le-mul_right}
use native.Mathlib.Omega.{arith}
use lib.ListN.{length, get_or, take, length-append, length-take}
use Rattle.std.proofs.lemmas.List.{take_more}
use Rattle.room.specs.Kept.{cut_line, cut_lines}

-- the first of some numbers, and the others
rest-fits : (n wide : ℕ) → (n ≡ 0 → ⊥) → n * wide ≡ wide + (n - 1) * wide
rest-fits n wide some =
    let most : suc (n - 1) ≤ n = omega arith in
    let least : n ≤ suc (n - 1) = omega arith in
    omega (arith, mul-le-mul_right wide most, mul-le-mul_right wide least)

module _ (n : ℕ) (table : List ℕ) where
  pub line_at : (row : ℕ) (columns : List ℕ) (i : ℕ) → i < length columns → get_or (cut_line n table row columns) i 0 ≡ get_or table (row * n + get_or columns i 0) 0
  unfolding cut_line
  line_at row [] i h = absurd (omega arith)
  line_at row (x ∷ l) zero h = refl
  line_at row (x ∷ l) (suc i) h = line_at row l i (omega arith)

  pub line-long : (row : ℕ) (columns : List ℕ) → length (cut_line n table row columns) ≡ length columns
  unfolding cut_line
  line-long row [] = refl
  line-long row (x ∷ l) = omega (arith, line-long row l)

  pub lines_long : (columns rows : List ℕ) → length (cut_lines n table columns rows) ≡ length rows * length columns
  unfolding cut_lines
  lines_long columns [] = omega arith
  lines_long columns (x ∷ l) =
      let some : length (x ∷ l) ≡ 0 → ⊥ = λ e. omega arith in
      omega (
        arith,
        length-append (cut_line n table x columns) (cut_lines n table columns l),
        line-long x columns,
        lines_long columns l,
        rest-fits (length (x ∷ l)) (length columns) some,
      )

  lines_append : (columns a b : List ℕ) → cut_lines n table columns (a ++ b) ≡ cut_lines n table columns a ++ cut_lines n table columns b
  unfolding cut_lines
  lines_append columns [] b = refl
  lines_append columns (x ∷ a) b =
      rw (lines_append columns a b) (sym (append_assoc (cut_line n table x columns) (cut_lines n table columns a) (cut_lines n table columns b)))

  -- the first rows, and one more
  module _ (columns rows : List ℕ) (i : ℕ) (h : i < length rows) where
    pub lines-more :
        cut_lines n table columns (take (i + 1) rows) ≡ cut_lines n table columns (take i rows) ++ cut_line n table (get_or rows i 0) columns
    unfolding cut_lines
    lines-more = rw (take_more rows i 0 h, lines_append, append-nil) refl

    -- their lines are not more than those of all
    pub lines-within : length (cut_lines n table columns (take (i + 1) rows)) ≤ length rows * length columns
    lines-within =
        let few : length (take (i + 1) rows) ≤ length rows = simp length-take (omega arith) in
        rw (lines_long columns (take (i + 1) rows)) (mul-le-mul_right (length columns) few)
