-- No anchor so far has a good step to the target.
use Prim.Native.Nat.{ℕ, ◌*◌, ◌<◌, ◌≤◌}
use mathlib.Core.Path.{refl, sym, ◌∙◌}
use native.Mathlib.Nat.{mul-le-mul}
use native.Mathlib.Omega.{arith}
use Rattle.usable.proofs.RowLaws.{none_more, leads-anchor, step-asked, step-unasked}
use Rattle.chain.proofs.anchors.direct_chain.Goals as goal
use Rattle.chain.proofs.anchors.direct_chain.Goals.{
  else-roles-u-eq1-via-then-roles-u-eq1+then-octet-eq1+else-matched,
  else-roles-u-eq1-via-then-roles-u-eq1+else-octet-eq1,
  else-roles-u-eq1-via-else-roles-u-eq1,
}

few : {u places : ℕ} → places ≤ 96 → u < places → u * places ≤ 96 * 96
few small h = mul-le-mul {n₂ = 96} {m₂ = 96} (omega arith) small

pub loop-u-init : goal.loop-u-init
loop-u-init c = let p = c.requires in record { small = p.0; there = p.1; none = λ w h. absurd (omega arith) }

pub bounds-roles-u : goal.bounds-roles-u
bounds-roles-u c = omega (arith, c.loop-u.invariant.small, c.loop-u-test.true)

pub overflow_mul-u : goal.overflow_mul-u
overflow_mul-u c = let i = c.loop-u.invariant in omega (arith, few i.small c.loop-u-test.true)

pub overflow_add-u : goal.overflow_add-u
overflow_add-u c =
    let i = c.loop-u.invariant in
    omega (arith, i.small, i.there, few i.small c.loop-u-test.true)

pub bounds-roles-target : goal.bounds-roles-target
bounds-roles-target c =
    let i = c.loop-u.invariant in
    omega (arith, i.small, i.there)

pub pair-requires : goal.pair-requires
pair-requires c =
    let i = c.loop-u.invariant in
    (omega (arith, i.small, c.loop-u-test.true), omega (arith, i.small, i.there))

pub returns-then-matched : goal.returns-then-matched
returns-then-matched c =
    let i = c.loop-u.invariant in
    let u = c.loop-u.u in
    let here : u < 96 = omega (arith, i.small, c.loop-u-test.true) in
    λ z. record {
      from = u;
      inside = c.loop-u-test.true;
      anchor = c.if-roles-u-eq1.true;
      good =
          sym
          (step-asked _ _ _ _ _ _ _ refl refl refl refl (leads-anchor c.if-roles-u-eq1.true) c.octet.ensures c.if-octet-eq1.true
          (c.matched.ensures.0 here (omega (arith, i.small, i.there))))
          ∙ c.if-matched.true;
      first = i.none;
      count = c.pair.ensures.0;
      slots = c.pair.ensures.1;
    }

pub loop-u-preserved : goal.loop-u-preserved
loop-u-preserved c =
    let i = c.loop-u.invariant in
    let here : c.loop-u.u < 96 = omega (arith, i.small, c.loop-u-test.true) in
    let there : c.args.target < 96 = omega (arith, i.small, i.there) in
    record {
      small = i.small;
      there = i.there;
      none =
          none_more _ _ _ _ _ _ _ i.none
          (λ one.
          elim c.else-roles-u-eq1.branch [
            | else-roles-u-eq1-via-then-roles-u-eq1+then-octet-eq1+else-matched w ↦
                sym
                (step-asked _ _ _ _ _ _ _ refl refl refl refl (leads-anchor one) w.octet.ensures w.if-octet-eq1.true
                (w.matched.ensures.0 here there))
                ∙ w.if-matched.false
            | else-roles-u-eq1-via-then-roles-u-eq1+else-octet-eq1 w ↦
                step-unasked _ _ _ _ _ _ _ refl (leads-anchor one) w.octet.ensures w.if-octet-eq1.false
            | else-roles-u-eq1-via-else-roles-u-eq1 w ↦ absurd (w.if-roles-u-eq1.false one)
          ]);
    }

pub returns : goal.returns
returns c = λ z. absurd (z c.no_chain.ensures.empty)
