-- The step that is found is good.
use Prim.Native.Nat.{ℕ, ◌*◌, ◌<◌, ◌≤◌}
use mathlib.Core.Path.{◌≡◌, refl, sym, ◌∙◌}
use native.Mathlib.Nat.{mul-le-mul}
use native.Mathlib.Omega.{arith}
use Rattle.usable.proofs.RowLaws.{leads-anchor, step-asked}
use Rattle.chain.proofs.anchors.begins.Goals as goal

few : {u places : ℕ} → places ≤ 96 → u < places → u * places ≤ 96 * 96
few small h = mul-le-mul {n₂ = 96} {m₂ = 96} (omega arith) small

pub loop-u-init : goal.loop-u-init
loop-u-init c = c.requires

pub bounds-roles-u : goal.bounds-roles-u
bounds-roles-u c = omega (arith, c.loop-u.invariant, c.loop-u-test.true)

pub loop-v-init : goal.loop-v-init
loop-v-init c = (c.loop-u.invariant, c.loop-u-test.true)

pub bounds-roles-v : goal.bounds-roles-v
bounds-roles-v c = omega (arith, c.loop-v.invariant.0, c.loop-v-test.true)

pub overflow_mul-u : goal.overflow_mul-u
overflow_mul-u c = omega (arith, few c.loop-v.invariant.0 c.loop-v.invariant.1)

pub overflow_add-u : goal.overflow_add-u
overflow_add-u c =
    let i = c.loop-v.invariant in
    omega (arith, i.0, few i.0 i.1, c.loop-v-test.true)

pub returns-then-matched : goal.returns-then-matched
returns-then-matched c =
    let i = c.loop-v.invariant in
    let u = c.loop-u.u in
    let v = c.loop-v.v in
    let here : u < 96 = omega (arith, i.0, i.1) in
    let there : v < 96 = omega (arith, i.0, c.loop-v-test.true) in
    let role = sym c.if-roles-v-eq2.true in
    let step =
    step-asked _ _ _ _ _ u v refl refl role refl (leads-anchor c.if-roles-u-eq1.true) c.octet.ensures
    c.if-octet-eq1.true (c.matched.ensures.0 here there) in
    λ e. (u, v, sym step ∙ c.if-matched.true)

pub loop-v-preserved : goal.loop-v-preserved
loop-v-preserved c = c.loop-v.invariant

pub loop-u-preserved : goal.loop-u-preserved
loop-u-preserved c = c.loop-u.invariant

pub returns : goal.returns
returns c = λ e. absurd (let z : ◌≡◌ {A = ℕ} 0 1 = cc in omega arith)
