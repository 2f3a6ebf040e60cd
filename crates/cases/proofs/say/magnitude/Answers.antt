-- A negative number -(n + 1) is taken from -1, which leaves n; any other is its own magnitude.
use mathlib.Core.Path.{◌≡◌, ap, sym, ◌∙◌}
use mathlib.Core.Bool.{true, false}
use Prim.Native.Nat.{ℕ, suc, ◌+◌, ◌≤◌}
use native.Mathlib.Numerals.{add-one}
use native.Mathlib.Omega.{arith}
use borrow.Author.Tests.{ltb-true, le-ltb}
use lib.Dec.{T}
use lib.IntN.{ℤ, pos, negsuc, nat_abs, ◌-ℤ◌}
use lib.Signed.{lt_z, non_neg, mag}
use mir.Syntax.{w64}
use mir.Val.{Fits, SFits, to_z, of_z}
use mir.ValLaws.{to_z-of_z}
use Rattle.cases.proofs.say.magnitude.Goals as goal
use Rattle.cases.proofs.say.magnitude.Goals.{Then-value-lt0}

turned : (z : ℤ) → lt_z z (pos 0) ≡ true → negsuc 0 -ℤ z ≡ pos (mag z)
turned (pos n) h = absurd (omega (arith, ltb-true n 0 h))
turned (negsuc n) h = let e : 1 ≤ suc n = omega arith in simp (le-ltb (suc n) 1 e) (ap pos (omega arith))

read_back : (z : ℤ) → SFits w64 z → lt_z z (pos 0) ≡ true → to_z w64 (of_z w64 (negsuc 0 -ℤ to_z w64 (of_z w64 z))) ≡ pos (mag z)
read_back z f h = rw (to_z-of_z w64 z f, turned z h) (to_z-of_z w64 (pos (mag z)) (record { sfits = f.sfits }))

one_more : (z : ℤ) → lt_z z (pos 0) ≡ true → mag z + 1 ≡ nat_abs z
one_more (pos n) h = absurd (omega (arith, ltb-true n 0 h))
one_more (negsuc n) h = add-one n

not_negative : (z : ℤ) → SFits w64 z → lt_z z (pos 0) ≡ false → T (non_neg z) × Fits w64 (nat_abs z)
not_negative (pos n) f h = (tt, record { fits = omega (arith, f.sfits) })
not_negative (negsuc n) f h = let z : ◌≡◌ {A = ℕ} 0 1 = cc in absurd (omega arith)

negative : (c : Then-value-lt0) → lt_z c.args.value (pos 0) ≡ true
negative c = ap (λ z. lt_z z (pos 0)) (sym (to_z-of_z w64 _ c.ranges.value)) ∙ c.if-value-lt0.true

left_over : (c : Then-value-lt0) → to_z w64 (of_z w64 (negsuc 0 -ℤ to_z w64 (of_z w64 c.args.value))) ≡ pos (mag c.args.value)
left_over c = read_back _ c.ranges.value (negative c)

pub overflow_sub-result : goal.overflow_sub-result
overflow_sub-result c =
    rw (to_z-of_z w64 _ c.ranges.value, turned _ (negative (goal.at.overflow_sub-result c).Then-value-lt0)) (record { sfits = c.ranges.value.sfits })

pub overflow_cast-result : goal.overflow_cast-result
overflow_cast-result c = rw (left_over (goal.at.overflow_cast-result c).Then-value-lt0) (tt, record { fits = omega (arith, c.ranges.value.sfits) })

pub overflow_add-result : goal.overflow_add-result
overflow_add-result c = rw (left_over (goal.at.overflow_add-result c).Then-value-lt0) (record { fits = omega (arith, c.ranges.value.sfits) })

pub overflow_cast-result-else-value-lt0 : goal.overflow_cast-result-else-value-lt0
overflow_cast-result-else-value-lt0 c =
    let back = to_z-of_z w64 _ c.ranges.value in
    rw back (not_negative _ c.ranges.value (ap (λ z. lt_z z (pos 0)) (sym back) ∙ c.if-value-lt0.false))

pub returns-then-value-lt0 : goal.returns-then-value-lt0
returns-then-value-lt0 c = rw (left_over (goal.at.returns-then-value-lt0 c).Then-value-lt0) (one_more c.args.value (negative (goal.at.returns-then-value-lt0 c).Then-value-lt0))

pub returns-else-value-lt0 : goal.returns-else-value-lt0
returns-else-value-lt0 c = ap nat_abs (to_z-of_z w64 _ c.ranges.value)
