-- A first octet that is neither 00 nor FF tells all; those two ask for the second octet.
use Prim.Native.Nat.{ℕ, ◌<◌, ◌≤◌}
use mathlib.Core.Bool.{true}
use mathlib.Core.List.{List, [], ◌∷◌}
use mathlib.Core.Path.{◌≡◌, refl}
use native.Mathlib.Omega.{arith}
use borrow.Author.Tests.{eq-eqb, ne_eqb}
use lib.Dec.{eqb, leb, ltb}
use lib.ListN.{length, get_or}
use Rattle.der.specs.Contents.{integer_good}
use Rattle.der.proofs.contents.integer_good.Goals as goal

short : (c : List ℕ) → length c < 2 → eqb (length c) 1 ≡ integer_good c
unfolding integer_good
short [] h = refl
short (x ∷ []) h = refl
short (x ∷ (y ∷ rest)) h = absurd (omega arith)

module _ (c : List ℕ) (two : 2 ≤ length c) where
  middle : (get_or c 0 0 ≡ 0 → ⊥) → (get_or c 0 0 ≡ 255 → ⊥) → true ≡ integer_good c
  unfolding integer_good
  middle h g =
      simp (
        ne_eqb (length c) 0 (λ e. omega arith),
        ne_eqb (length c) 1 (λ e. omega arith),
        ne_eqb (get_or c 0 0) 0 h,
        ne_eqb (get_or c 0 0) 255 g,
      )

  zeros : get_or c 0 0 ≡ 0 → leb 128 (get_or c 1 0) ≡ integer_good c
  unfolding integer_good
  zeros h = simp (ne_eqb (length c) 0 (λ e. omega arith), ne_eqb (length c) 1 (λ e. omega arith), eq-eqb (get_or c 0 0) 0 h)

  ones : get_or c 0 0 ≡ 255 → ltb (get_or c 1 0) 128 ≡ integer_good c
  unfolding integer_good
  ones h =
      simp (
        ne_eqb (length c) 0 (λ e. omega arith),
        ne_eqb (length c) 1 (λ e. omega arith),
        ne_eqb (get_or c 0 0) 0 (λ e. omega arith),
        eq-eqb (get_or c 0 0) 255 h,
      )

pub returns-then-c-lt2 : goal.returns-then-c-lt2
returns-then-c-lt2 c = short c.args.c.now c.if-c-lt2.true

pub returns-in-0 : goal.returns-in-0
returns-in-0 c = zeros c.args.c.now c.if-c-lt2.false c.in-0.is

pub returns-in-255 : goal.returns-in-255
returns-in-255 c = ones c.args.c.now c.if-c-lt2.false c.in-255.is

pub returns-in_default : goal.returns-in_default
returns-in_default c = middle c.args.c.now c.if-c-lt2.false (λ e. omega arith) (λ e. omega arith)
