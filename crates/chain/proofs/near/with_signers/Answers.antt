-- The inner loop asks one signer more, the outer one goes to the next usable place.
use Prim.Native.Nat.{◌*◌, ◌≤◌}
use mathlib.Core.Path.{sym, ◌∙◌}
use native.Mathlib.Nat.{mul-le-mul}
use native.Mathlib.Omega.{arith}
use lib.ListN.{length-set}
use Rattle.chain.proofs.Layers.{layer-start, layer-marked, layer-passed, layer-done, layer-left, layer-end, no-verdict}
use Rattle.chain.proofs.near.with_signers.Goals as goal
use Rattle.chain.proofs.near.with_signers.Goals.{
  then-near-u-eq2+then-octet-eq1,
  else-near-u-eq2,
  else-near-u-eq2-via-then-near-u-eq2+else-octet-eq1,
  else-near-u-eq2-via-else-near-u-eq2,
  then-led+else-loop-u-test,
  else-led,
}

pub loop-v-init : goal.loop-v-init
loop-v-init c = (omega arith, layer-start _ _ _ _)

pub bounds-roles-v : goal.bounds-roles-v
bounds-roles-v c = omega (arith, c.requires, c.loop-v-test.true)

pub loop-u-init : goal.loop-u-init
loop-u-init c = c.loop-v.invariant

pub bounds-near-u : goal.bounds-near-u
bounds-near-u c = omega (arith, c.requires, c.loop-u-test.true)

pub overflow_mul-u : goal.overflow_mul-u
overflow_mul-u c =
    let m : c.loop-u.u * c.args.places ≤ 96 * 96 =
    mul-le-mul {n₂ = 96} {m₂ = 96} (omega (arith, c.requires, c.loop-v-test.true, c.loop-u-test.true)) (omega (arith, c.requires)) in
    omega (arith, m, c.requires, c.loop-v-test.true, c.loop-u-test.true)

pub overflow_add-u : goal.overflow_add-u
overflow_add-u c =
    let m : c.loop-u.u * c.args.places ≤ 96 * 96 =
    mul-le-mul {n₂ = 96} {m₂ = 96} (omega (arith, c.requires, c.loop-v-test.true, c.loop-u-test.true)) (omega (arith, c.requires)) in
    omega (arith, m, c.requires, c.loop-v-test.true, c.loop-u-test.true)

pub bounds-more-u : goal.bounds-more-u
bounds-more-u c =
    omega (arith, c.requires, c.loop-u-test.true)

pub loop-u-preserved : goal.loop-u-preserved
loop-u-preserved c =
    let room = c.loop-u.invariant.0 in
    let layer = c.loop-u.invariant.1 in
    let inside = c.loop-u-test.true in (
      elim c.if-near-u-eq2.branch [
        | then-near-u-eq2+then-octet-eq1 w ↦ rw (w.more-is, length-set) room
        | else-near-u-eq2 w ↦ rw w.more-is room
      ],
      elim c.if-near-u-eq2.branch [
        | then-near-u-eq2+then-octet-eq1 w ↦ rw w.more-is (layer-marked layer (omega (arith, room, c.requires, inside)))
        | else-near-u-eq2 w ↦
            rw w.more-is
            (layer-passed layer
            (elim w.else-near-u-eq2.branch [
              | else-near-u-eq2-via-then-near-u-eq2+else-octet-eq1 x ↦ λ b t. no-verdict _ _ _ _ x.octet.ensures x.if-octet-eq1.false b
              | else-near-u-eq2-via-else-near-u-eq2 x ↦ λ b t. absurd (x.if-near-u-eq2.false t)
            ]))
      ],
    )

pub loop-v-preserved : goal.loop-v-preserved
loop-v-preserved c =
    let i = c.loop-v.invariant in (
      elim c.if-led.branch [
        | then-led+else-loop-u-test w ↦ rw w.more-is w.loop-u.invariant.0
        | else-led w ↦ rw w.more-is i.0
      ],
      elim c.if-led.branch [
        | then-led+else-loop-u-test w ↦ rw w.more-is (layer-done (omega (arith, w.loop-u.auto.u-end, w.loop-u-test.false)) w.loop-u.invariant.1)
        | else-led w ↦ rw w.more-is (layer-left i.1 (sym c.led.ensures ∙ w.if-led.false))
      ],
    )

pub returns : goal.returns
returns c = layer-end c.loop-v.invariant.1 (omega (arith, c.loop-v-test.false, c.loop-v.auto.v-end))
