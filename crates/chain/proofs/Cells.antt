-- A table of 96 rows of 96 columns that is filled row by row: what was set stays, and the cells behind are still 0.
use Prim.Native.Nat.{ℕ, ◌+◌, ◌*◌, ◌<◌, ◌≤◌}
use mathlib.Core.Path.{◌≡◌, refl, ◌∙◌}
use mathlib.Core.List.{List}
use mathlib.Core.Bool.{Bool, true, false}
use mathlib.Core.Logic.{◌⊎◌, inl, inr, ⊎_elim}
use native.Mathlib.Nat.{eq-or-lt_of_le}
use native.Mathlib.Omega.{arith}
use borrow.Author.Tests.{ltb-true, ltb-false}
use lib.Dec.{ltb}
use lib.ListN.{length, get_or, set}
use Rattle.usable.specs.Rows.{flag}
use lib.Seq.{get_or-set_same, get_or-set_other}

pub below_or_not : (a b : ℕ) → (a < b) ⊎ (b ≤ a)
below_or_not a b = go (ltb a b) refl
  where
    go : (t : Bool) → ltb a b ≡ t → (a < b) ⊎ (b ≤ a)
    go true e = inl (ltb-true a b e)
    go false e = inr (ltb-false a b e)

pub flag-is : {b : Bool} → b ≡ true → 1 ≡ flag b
unfolding flag
flag-is e = rw e

pub flag_not : {b : Bool} → b ≡ false → 0 ≡ flag b
unfolding flag
flag_not e = rw e

-- the cells before row u and column v are those of f, and the others 0, in the first n columns
pub record Cells (f : ℕ → ℕ → ℕ) (n : ℕ) (l : List ℕ) (u v : ℕ) : Type 0 where
  pub before : (w x : ℕ) → x < n → w * 96 + x < u * 96 + v → get_or l (w * 96 + x) 0 ≡ f w x
  pub behind : (w x : ℕ) → x < n → u * 96 + v ≤ w * 96 + x → get_or l (w * 96 + x) 0 ≡ 0

-- the two places of a cell
row_of : (n u v w x : ℕ) → n ≤ 96 → v < n → x < n → w * 96 + x ≡ u * 96 + v → w ≡ u
row_of n u v w x small h k e = omega arith

column-of : (n u v w x : ℕ) → n ≤ 96 → v < n → x < n → w * 96 + x ≡ u * 96 + v → x ≡ v
column-of n u v w x small h k e = omega arith

least : (u v w x : ℕ) → w * 96 + x < u * 96 + (v + 1) → w * 96 + x ≤ u * 96 + v
least u v w x h = omega arith

module _ {f : ℕ → ℕ → ℕ} {n : ℕ} {l : List ℕ} {u : ℕ} (small : n ≤ 96) where
  -- one cell more, set or left at 0
  pub cell_set :
      {v value : ℕ} → Cells f n l u v → v < n → u * 96 + v < length l → value ≡ f u v
      → Cells f n (set l (u * 96 + v) value) u (v + 1)
  cell_set {v} {value} c inside room e =
      record {
        before = λ w x k h.
            ⊎_elim
            (λ (q : w * 96 + x ≡ u * 96 + v).
            let a = row_of n u v w x small inside k q in
            let b = column-of n u v w x small inside k q in
            rw (a, b) (get_or-set_same l (u * 96 + v) value 0 room ∙ e))
            (λ (q : w * 96 + x < u * 96 + v).
            get_or-set_other l (u * 96 + v) (w * 96 + x) value 0 (λ (z : w * 96 + x ≡ u * 96 + v). omega arith) ∙ c.before w x k q)
            (eq-or-lt_of_le (least u v w x h));
        behind = λ w x k h.
            get_or-set_other l (u * 96 + v) (w * 96 + x) value 0 (λ (z : w * 96 + x ≡ u * 96 + v). omega arith)
            ∙ c.behind w x k (omega arith);
      }

  pub cell-left : {v : ℕ} → Cells f n l u v → v < n → 0 ≡ f u v → Cells f n l u (v + 1)
  cell-left {v} c inside e =
      record {
        before = λ w x k h.
            ⊎_elim
            (λ (q : w * 96 + x ≡ u * 96 + v).
            let a = row_of n u v w x small inside k q in
            let b = column-of n u v w x small inside k q in
            rw (a, b) (c.behind u v inside (omega arith) ∙ e))
            (λ (q : w * 96 + x < u * 96 + v). c.before w x k q)
            (eq-or-lt_of_le (least u v w x h));
        behind = λ w x k h. c.behind w x k (omega arith);
      }

  -- one row more, of which the cells behind are 0
  pub row-rest : {v : ℕ} → v ≤ n → Cells f n l u v → ((x : ℕ) → v ≤ x → x < n → 0 ≡ f u x) → Cells f n l (u + 1) 0
  row-rest {v} few c e =
      record {
        before = λ w x k h.
            ⊎_elim (λ (q : w * 96 + x < u * 96 + v). c.before w x k q)
            (λ (q : u * 96 + v ≤ w * 96 + x).
            let a : w ≡ u = omega arith in
            let b : v ≤ x = omega arith in
            c.behind w x k q ∙ rw a (e x b k))
            (below_or_not (w * 96 + x) (u * 96 + v));
        behind = λ w x k h. c.behind w x k (omega arith);
      }

  -- or left at 0
  pub row-left : Cells f n l u 0 → ((x : ℕ) → x < n → 0 ≡ f u x) → Cells f n l (u + 1) 0
  row-left c e =
      record {
        before = λ w x k h.
            ⊎_elim (λ (q : w * 96 + x < u * 96 + 0). c.before w x k q)
            (λ (q : u * 96 + 0 ≤ w * 96 + x).
            let a : w ≡ u = omega arith in
            c.behind w x k q ∙ rw a (e x k))
            (below_or_not (w * 96 + x) (u * 96 + 0));
        behind = λ w x k h. c.behind w x k (omega arith);
      }
