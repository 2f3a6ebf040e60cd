-- A verdict that is not 1 joins nothing, and else the rows decide.
use Prim.Native.Nat.{ℕ, ◌*◌, ◌<◌, ◌≤◌}
use mathlib.Core.Path.{◌∙◌}
use native.Mathlib.Nat.{mul-le-mul}
use native.Mathlib.Omega.{arith}
use borrow.Author.Tests.{ne_eqb}
use Rattle.chain.proofs.GivenChain.{joined-unasked, joined-asked}
use Rattle.chain.proofs.given.step_fits.Goals as goal

few : {u count : ℕ} → count ≤ 96 → u < count → u * count ≤ 96 * 96
few small h = mul-le-mul {n₂ = 96} {m₂ = 96} (omega arith) small

pub overflow_mul-u : goal.overflow_mul-u
overflow_mul-u c = let p = c.requires in omega (arith, few p.0 p.1)

pub overflow_add-u : goal.overflow_add-u
overflow_add-u c = let p = c.requires in omega (arith, p.0, p.2, few p.0 p.1)

pub returns-else-octet-eq1 : goal.returns-else-octet-eq1
returns-else-octet-eq1 c = ne_eqb _ _ c.if-octet-eq1.false ∙ joined-unasked _ _ _ _ _ _ c.octet.ensures c.if-octet-eq1.false

pub returns-then-octet-eq1 : goal.returns-then-octet-eq1
returns-then-octet-eq1 c =
    let p = c.requires in
    joined-asked _ _ _ _ _ _ c.octet.ensures c.if-octet-eq1.true
    (c.matched.ensures.0 (omega (arith, p.0, p.1)) (omega (arith, p.0, p.2)))
