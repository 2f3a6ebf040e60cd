-- Below 64 the bits of the constant are compared with the definition one by one; above only the number 31 is bad.
use Prim.Native.Nat.{ℕ, zero, suc, ◌<◌, ◌≤◌, ◌/◌, ◌%◌, ◌^◌}
use mathlib.Core.Bool.{Bool, true, false, cond, not, ◌&&◌}
use mathlib.Core.Logic.{⊎_elim}
use mathlib.Core.Path.{◌≡◌, refl, sym}
use native.Mathlib.Nat.{eq-or-lt_of_le}
use native.Mathlib.Omega.{arith}
use borrow.Author.Tests.{le-leb}
use lib.Dec.{eqb}
use Rattle.der.specs.Heading.{identifier_good}
use Rattle.der.proofs.Laws.{and_left, and_right}
use Rattle.der.proofs.heading.identifier.Goals as goal

abbrev bit : ℕ → Bool
bit n = eqb (844427077419006 / 2 ^ n % 2) 1

abbrev same : Bool → Bool → Bool
same true b = b
same false b = not b

-- the bits below k are those of the definition
abbrev agree : ℕ → Bool
agree zero = true
agree (suc k) = same (bit k) (identifier_good k) && agree k

same-is : (a b : Bool) → same a b ≡ true → a ≡ b
same-is true b e = sym e
same-is false true e = e
same-is false false e = refl

below : (k : ℕ) → agree k ≡ true → (n : ℕ) → n < k → bit n ≡ identifier_good n
below zero e n h = absurd (omega arith)
below (suc k) e n h =
    let most : n ≤ k = omega arith in
    ⊎_elim (λ last. rw last (same-is (bit k) (identifier_good k) (and_left _ (agree k) e))) (λ before. below k (and_right (same (bit k) (identifier_good k)) (agree k) e) n before) (eq-or-lt_of_le most)

all : agree 64 ≡ true
unfolding identifier_good
all = refl

turned : (b : Bool) → not b ≡ cond b false true
turned true = refl
turned false = refl

pub returns-then-tag-lt64 : goal.returns-then-tag-lt64
returns-then-tag-lt64 c = below 64 all c.args.tag c.if-tag-lt64.true

pub returns : goal.returns
unfolding identifier_good
returns c = simp (le-leb _ _ c.if-tag-lt64.false) (turned (eqb (c.args.tag % 32) 31))
