-- After i octets the value is their number, and a number of four octets is below 2 to the power of 32.
use Prim.Native.Nat.{◌+◌, ◌*◌, ◌^◌, ◌≤◌, ◌<◌}
use mathlib.Core.Path.{◌≡◌, refl, ap, ◌∙◌}
use native.Mathlib.Nat.{pow-suc, pow-le-pow_right}
use native.Mathlib.Numerals.{add-one}
use native.Mathlib.Omega.{arith}
use lib.ListN.{take, get_or}
use lib.Seq.{take_all}
use Rattle.octets.specs.Octets.{number}
use Rattle.octets.proofs.Weights.{number-next}
use Rattle.image.proofs.number_of.Goals as goal
use Rattle.image.proofs.number_of.Goals.{In-loop-i}

-- at most three octets come before this one
room : (c : In-loop-i) → c.loop-i.value < 256 ^ 3
room c =
    let three : c.loop-i.i ≤ 3 = omega arith in
    let power : 256 ^ c.loop-i.i ≤ 256 ^ 3 = pow-le-pow_right (omega arith) three in
    omega arith

pub loop-i-init : goal.loop-i-init
unfolding number
loop-i-init c = (omega arith, refl, omega arith)

pub overflow_mul-value : goal.overflow_mul-value
overflow_mul-value c = omega (arith, room (goal.at.overflow_mul-value c).In-loop-i)

pub bounds-c-i : goal.bounds-c-i
bounds-c-i c = omega arith

pub overflow_cast-value : goal.overflow_cast-value
overflow_cast-value c = omega (arith, c.type_inv.c c.loop-i.i)

pub overflow_add-value : goal.overflow_add-value
overflow_add-value c = omega (arith, room (goal.at.overflow_add-value c).In-loop-i, c.type_inv.c c.loop-i.i)

pub overflow_add-i : goal.overflow_add-i
overflow_add-i c = omega arith

pub loop-i-smaller : goal.loop-i-smaller
loop-i-smaller c = omega arith

pub loop-i-preserved : goal.loop-i-preserved
loop-i-preserved c =
    let l = c.args.c.now in
    let i = c.loop-i.i in
    let next : number (take (i + 1) l) ≡ number (take i l) * 256 + get_or l i 0 =
    rw add-one (number-next l i c.loop-i-test.true) in
    let power : 256 ^ (i + 1) ≡ 256 ^ i * 256 = rw add-one (pow-suc 256 i) in
    (omega arith, omega arith, omega (arith, c.type_inv.c i))

pub returns : goal.returns
returns c =
    let l = c.args.c.now in
    let i = c.loop-i.i in
    let most : i ≤ 4 = omega arith in
    let power : 256 ^ i ≤ 256 ^ 4 = pow-le-pow_right (omega arith) most in
    (c.loop-i.invariant.1 ∙ ap number (take_all i l c.loop-i-test.false), omega arith)
