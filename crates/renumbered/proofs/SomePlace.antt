-- Some place meets a test before exactly where some place does after, if those that go do not meet it.
use Prim.Native.Nat.{ℕ, zero, suc, ◌<◌}
use mathlib.Core.Path.{◌≡◌, refl, sym, ap, ◌∙◌}
use mathlib.Core.Bool.{Bool, true, false}
use mathlib.Core.List.{List}
use native.Mathlib.Omega.{arith}
use lib.ListN.{length}
use Rattle.graph.proofs.Cases.{either, clash}
use Rattle.image.specs.Items.{Item}
use Rattle.usable.specs.Items.{item_at, some_below}
use Rattle.usable.proofs.Booleans.{false-true}
use Rattle.usable.proofs.RowLaws.{some-there}
use Rattle.room.specs.Kept.{stays, kept, new_place}
use Rattle.renumbered.specs.Answers.{Stays}
use Rattle.renumbered.proofs.Numbers.{old_place, number-inside, new-of-old}

-- where a test of some place holds
some-where : (n : ℕ) (test : ℕ → Bool) → some_below n test ≡ true → (p : ℕ) × (p < n) × (test p ≡ true)
unfolding some_below
some-where zero test e = false-true e
some-where (suc n) test e =
    either (test n) (λ t. (n, omega arith, t)) (λ t. let (p, l, u) = some-where n test (rw t at e) in (p, omega (arith, l), u))

-- tests that follow from each other are one
one_truth : (a b : Bool) → (a ≡ true → b ≡ true) → (b ≡ true → a ≡ true) → a ≡ b
one_truth true b f g = sym (f refl)
one_truth false true f g = g refl
one_truth false false f g = refl

module _ (moment : ℕ) (items : List Item) where
  pub some-kept :
      (old new : ℕ → Bool) → ((p : ℕ) → Stays moment items p → new (new_place moment items p) ≡ old p)
      → ((p : ℕ) → stays moment (item_at items p) ≡ false → old p ≡ false)
      → some_below (length (kept moment items)) new ≡ some_below (length items) old
  some-kept old new same gone =
      one_truth (some_below (length (kept moment items)) new) (some_below (length items) old)
      (λ e.
      let (k, l, t) = some-where (length (kept moment items)) new e in
      let (s, number) = new-of-old moment items k l in
      some-there (length items) old (old_place moment items k) s.inside (sym (same (old_place moment items k) s) ∙ ap new number ∙ t))
      (λ e.
      let (p, l, t) = some-where (length items) old e in
      either (stays moment (item_at items p))
      (λ k. let s : Stays moment items p = record { inside = l; kept = k } in
      some-there (length (kept moment items)) new (new_place moment items p) (number-inside moment items p s) (same p s ∙ t))
      (λ k. absurd (clash t (gone p k))))
