-- A place speaks up where its line of the table has an octet 1.
use Prim.Native.Nat.{ℕ, ◌+◌, ◌*◌, ◌<◌, ◌≤◌}
use mathlib.Core.Path.{◌≡◌, refl, sym, ◌∙◌}
use mathlib.Core.Bool.{Bool, true, false, ◌||◌}
use mathlib.Core.List.{List}
use mathlib.Core.Logic.{⊎_elim}
use native.Mathlib.Omega.{arith}
use borrow.Author.Count.{below_more}
use borrow.Author.Tests.{eq-eqb, ne_eqb, eqb-true, eqb-false}
use lib.Dec.{eqb}
use lib.ListN.{length, get_or, take, drop}
use Rattle.usable.specs.Table.{verdict_in}
use Rattle.usable.proofs.RowLaws.{line_read, line-short, line-past, some-there, some-none}
use Rattle.usable.proofs.Booleans.{false-true}
use Rattle.chain.specs.Rounds.{speaks_up}
use Rattle.chain.proofs.Cells.{below_or_not}

module _ (table : List ℕ) (n u : ℕ) {line : List ℕ} where
  speaks-here : (v : ℕ) → line ≡ take n (drop (u * n) table) → v < length line → get_or line v 0 ≡ 1 → speaks_up n table u ≡ true
  unfolding speaks_up verdict_in
  speaks-here v is h one =
      let short = line-short table n u is in
      let inside : v < n = omega (arith, short) in
      some-there n (verdict_in n table u) v inside (eq-eqb _ _ (sym (line_read table n u v is inside) ∙ one))

  speaks-nowhere : line ≡ take n (drop (u * n) table) → ((w : ℕ) → w < length line → get_or line w 0 ≡ 1 → ⊥) → speaks_up n table u ≡ false
  unfolding speaks_up verdict_in
  speaks-nowhere is none =
      some-none n (verdict_in n table u)
      (λ v h.
      ne_eqb _ _
      (⊎_elim (λ (k : v < length line). λ one. none v k (line_read table n u v is h ∙ one)) (λ (k : length line ≤ v). line-past table n u v is h k)
      (below_or_not v (length line))))

-- what the octets before v tell: whether one of them is 1
pub record Heard (line : List ℕ) (v : ℕ) (speaks : Bool) : Type 0 where
  pub yes : speaks ≡ true → (w : ℕ) × (w < v) × (get_or line w 0 ≡ 1)
  pub no : speaks ≡ false → (w : ℕ) → w < v → get_or line w 0 ≡ 1 → ⊥

pub heard-start : (line : List ℕ) → Heard line 0 false
heard-start line = record { yes = λ e. false-true e; no = λ e w h. absurd (omega arith) }

-- one octet more
pub heard-more : {line : List ℕ} {speaks : Bool} (v : ℕ) → Heard line v speaks → Heard line (v + 1) (speaks || eqb (get_or line v 0) 1)
heard-more {line} {speaks} v heard = go speaks heard (eqb (get_or line v 0) 1) refl
  where
    go : (s : Bool) → Heard line v s → (t : Bool) → eqb (get_or line v 0) 1 ≡ t → Heard line (v + 1) (s || t)
    go true h t e = record { yes = λ f. let x = h.yes refl in (x.0, omega (arith, x.1), x.2); no = λ f. false-true (sym f) }
    go false h true e = record { yes = λ f. (v, omega arith, eqb-true (get_or line v 0) 1 e); no = λ f. false-true (sym f) }
    go false h false e = record { yes = λ f. false-true f; no = λ f. below_more _ v (h.no refl) (eqb-false (get_or line v 0) 1 e) }

-- all of them
pub heard_all :
    (table : List ℕ) (n u : ℕ) {line : List ℕ} {v : ℕ} (speaks : Bool) → line ≡ take n (drop (u * n) table) → v ≤ length line → length line ≤ v
    → Heard line v speaks → speaks ≡ speaks_up n table u
heard_all table n u true is few all h = let x = h.yes refl in sym (speaks-here table n u x.0 is (omega (arith, x.1)) x.2)
heard_all table n u false is few all h = sym (speaks-nowhere table n u is (λ w k. h.no refl w (omega arith)))
