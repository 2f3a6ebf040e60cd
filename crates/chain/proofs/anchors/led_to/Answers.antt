-- No place so far has a good step to the target.
use Prim.Native.Nat.{ℕ, ◌*◌, ◌<◌, ◌≤◌}
use mathlib.Core.Path.{◌≡◌, refl, sym, ◌∙◌}
use native.Mathlib.Nat.{mul-le-mul}
use native.Mathlib.Omega.{arith}
use borrow.Author.Count.{below_more}
use Rattle.usable.proofs.RowLaws.{step-asked, step-unasked, step-unled}
use Rattle.chain.proofs.anchors.led_to.Goals as goal
use Rattle.chain.proofs.anchors.led_to.Goals.{
  else-leads-via-then-leads+then-octet-eq1+else-matched,
  else-leads-via-then-leads+else-octet-eq1,
  else-leads-via-else-leads,
}

few : {u places : ℕ} → places ≤ 96 → u < places → u * places ≤ 96 * 96
few small h = mul-le-mul {n₂ = 96} {m₂ = 96} (omega arith) small

pub loop-u-init : goal.loop-u-init
loop-u-init c = let p = c.requires in (p.0, p.1, λ w h. absurd (omega arith))

pub bounds-roles-u : goal.bounds-roles-u
bounds-roles-u c = omega (arith, c.loop-u.invariant.0, c.loop-u-test.true)

pub overflow_mul-u : goal.overflow_mul-u
overflow_mul-u c = omega (arith, few c.loop-u.invariant.0 c.loop-u-test.true)

pub overflow_add-u : goal.overflow_add-u
overflow_add-u c =
    let i = c.loop-u.invariant in
    omega (arith, i.0, i.1, few i.0 c.loop-u-test.true)

pub bounds-roles-target : goal.bounds-roles-target
bounds-roles-target c =
    let i = c.loop-u.invariant in
    omega (arith, i.0, i.1)

pub returns-then-matched : goal.returns-then-matched
returns-then-matched c = λ e. absurd (let z : ◌≡◌ {A = ℕ} 0 1 = cc in omega arith)

pub loop-u-preserved : goal.loop-u-preserved
loop-u-preserved c =
    let i = c.loop-u.invariant in
    let leads = sym c.leads.ensures in
    let here : c.loop-u.u < 96 = omega (arith, i.0, c.loop-u-test.true) in
    let there : c.args.target < 96 = omega (arith, i.0, i.1) in (
      i.0,
      i.1,
      below_more _ _ i.2
          (elim c.else-leads.branch [
            | else-leads-via-then-leads+then-octet-eq1+else-matched w ↦
                sym
                (step-asked _ _ _ _ _ _ _ refl refl refl refl (leads ∙ w.if-leads.true) w.octet.ensures w.if-octet-eq1.true
                (w.matched.ensures.0 here there))
                ∙ w.if-matched.false
            | else-leads-via-then-leads+else-octet-eq1 w ↦
                step-unasked _ _ _ _ _ _ _ refl (leads ∙ w.if-leads.true) w.octet.ensures w.if-octet-eq1.false
            | else-leads-via-else-leads w ↦ step-unled _ _ _ _ _ _ _ refl (leads ∙ w.if-leads.false)
          ]),
    )

pub returns : goal.returns
returns c = λ e u h. c.loop-u.invariant.2 u (omega (arith, c.loop-u-test.false))
