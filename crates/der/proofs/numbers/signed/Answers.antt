-- After i octets `value` is their number and `most` is one less than 256 to the power of i; a negative number lacks to that
-- power what `value` lacks to `most`, and one more.
use Prim.Native.Nat.{ℕ, zero, suc, ◌+◌, ◌*◌, ◌-◌, ◌^◌, ◌≤◌, ◌<◌}
use mathlib.Core.List.{List, [], ◌∷◌}
use mathlib.Core.Path.{◌≡◌, refl, ap, sym, ◌∙◌}
use native.Mathlib.Nat.{pow-suc, pow-le-pow_right, zero-add, suc-sub-suc}
use native.Mathlib.Numerals.{add-one}
use native.Mathlib.Omega.{arith}
use borrow.Author.Tests.{lt-ltb, le-ltb}
use lib.IntN.{pos, negsuc, ◌-ℤ◌}
use lib.ListN.{length, take, get_or}
use lib.Seq.{take_all}
use mir.Syntax.{w64}
use mir.Val.{to_z}
use mir.ValLaws.{to_z_pos, to_z-of_z}
use Rattle.octets.specs.Octets.{number, twos}
use Rattle.octets.proofs.Weights.{number-next, lower-half, upper-half}
use Rattle.der.proofs.numbers.signed.Goals as goal
use Rattle.der.proofs.numbers.signed.Goals.{After-loop-octet, Else-first-lt128, In-loop-octet, Then-first-lt128}

twos-none : (c : List ℕ) → length c ≡ 0 → pos 0 ≡ twos c
unfolding twos number
twos-none [] e = refl
twos-none (x ∷ xs) e = absurd (omega arith)

minus_one : (m : ℕ) → negsuc 0 -ℤ pos m ≡ negsuc m
minus_one zero = refl
minus_one (suc m) = ap (λ (n : ℕ). negsuc (suc n)) (zero-add m)

lacking : (n m p : ℕ) → n ≤ m → suc m ≡ p → pos n -ℤ pos p ≡ negsuc (m - n)
lacking n m p h e =
    let less : n < suc m = omega arith in
    rw (← e) (simp (lt-ltb n (suc m) less) (ap negsuc (suc-sub-suc m n)))

-- at most seven octets come before this one
room : (c : In-loop-octet) → c.loop-octet.most < 256 ^ 7
room c =
    let seven : c.loop-octet.octet-index ≤ 7 = omega arith in
    let power : 256 ^ c.loop-octet.octet-index ≤ 256 ^ 7 = pow-le-pow_right (omega arith) seven in
    omega arith

-- all octets are read, and at most eight
whole : (c : After-loop-octet) →
    let l = c.args.c.now in
    let now = c.loop-octet in
    (now.value ≡ number l) × (suc now.most ≡ 256 ^ length l) × (now.most < 256 ^ 8)
whole c =
    let l = c.args.c.now in
    let i = c.loop-octet.octet-index in
    let inv = c.loop-octet.invariant in
    let all : i ≡ length l = omega arith in
    let power : 256 ^ length l ≤ 256 ^ 8 = pow-le-pow_right (omega arith) c.requires in
    let count : suc c.loop-octet.most ≡ 256 ^ length l = rw (← all) inv.1 in
    (inv.0 ∙ ap number (take_all i l c.loop-octet-test.false), count, omega arith)

-- the first octet is below 128
low : (c : Then-first-lt128) → c.loop-octet.value < 2 ^ 63
low c =
    let l = c.args.c.now in
    let w = whole (record { before = c.before.before; type_inv = record { c = c.type_inv.c } }) in
    omega (arith, lower-half l (λ k. (c.type_inv.c k).fits) c.if-first-lt128.true)

-- the first octet is 128 or more
high : (c : Else-first-lt128) →
    let now = c.loop-octet in
    now.most - now.value < 2 ^ 63
high c =
    let l = c.args.c.now in
    let w = whole (record { before = c.before.before; type_inv = record { c = c.type_inv.c } }) in
    omega (arith, upper-half l c.if-first-lt128.false)

negative : (c : Else-first-lt128) →
    let now = c.loop-octet in
    negsuc 0 -ℤ to_z w64 (now.most - now.value) ≡ negsuc (now.most - now.value)
negative c = rw (to_z_pos w64 _ (high c)) (minus_one _)

pub returns-then-c-eq0 : goal.returns-then-c-eq0
returns-then-c-eq0 c = twos-none _ c.if-c-eq0.true

pub loop-octet-init : goal.loop-octet-init
unfolding number
loop-octet-init c = (refl, refl, omega arith)

pub overflow_mul-value : goal.overflow_mul-value
overflow_mul-value c = omega (arith, room (goal.at.overflow_mul-value c).In-loop-octet)

pub overflow_cast-value : goal.overflow_cast-value
overflow_cast-value c = omega (arith, c.type_inv.c c.loop-octet.octet-index)

pub overflow_add-value : goal.overflow_add-value
overflow_add-value c = omega (arith, room (goal.at.overflow_add-value c).In-loop-octet, c.type_inv.c c.loop-octet.octet-index)

pub overflow_mul-most : goal.overflow_mul-most
overflow_mul-most c = omega (arith, room (goal.at.overflow_mul-most c).In-loop-octet)

pub overflow_add-most : goal.overflow_add-most
overflow_add-most c = omega (arith, room (goal.at.overflow_add-most c).In-loop-octet)

pub loop-octet-preserved : goal.loop-octet-preserved
loop-octet-preserved c =
    let l = c.args.c.now in
    let i = c.loop-octet.octet-index in
    let next : number (take (i + 1) l) ≡ number (take i l) * 256 + get_or l i 0 =
    rw add-one (number-next l i c.loop-octet-test.true) in
    let power : 256 ^ (i + 1) ≡ 256 ^ i * 256 = rw add-one (pow-suc 256 i) in
    (omega arith, omega arith, omega (arith, c.type_inv.c i))

pub overflow_cast-result : goal.overflow_cast-result
overflow_cast-result c = record { sfits = low (goal.at.overflow_cast-result c).Then-first-lt128 }

pub returns-then-first-lt128 : goal.returns-then-first-lt128
unfolding twos
returns-then-first-lt128 c =
    let at = goal.at.returns-then-first-lt128 c in
    to_z_pos w64 _ (low at.Then-first-lt128) ∙ simp (lt-ltb _ _ c.if-first-lt128.true) (ap pos (whole at.After-loop-octet).0)

pub overflow_cast-result-2 : goal.overflow_cast-result-2
overflow_cast-result-2 c = record { sfits = high (goal.at.overflow_cast-result-2 c).Else-first-lt128 }

pub overflow_sub-result-2 : goal.overflow_sub-result-2
overflow_sub-result-2 c = rw (negative (goal.at.overflow_sub-result-2 c).Else-first-lt128) (record { sfits = high (goal.at.overflow_sub-result-2 c).Else-first-lt128 })

pub returns : goal.returns
unfolding twos
returns c =
    let l = c.args.c.now in
    let now = c.loop-octet in
    let w = whole (goal.at.returns c).After-loop-octet in
    let below : pos (number l) -ℤ pos (256 ^ length l) ≡ negsuc (now.most - now.value) =
    rw (← w.0) (lacking _ _ _ now.invariant.2 w.1) in
    to_z-of_z w64 _ (overflow_sub-result-2 c) ∙ (negative (goal.at.returns c).Else-first-lt128 ∙ simp (le-ltb _ _ c.if-first-lt128.false) (sym below))
