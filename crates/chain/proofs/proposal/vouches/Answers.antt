-- Where nothing was heard none of the octets so far is 1 at a CRL.
use Prim.Native.Nat.{◌*◌, ◌≤◌}
use native.Mathlib.Nat.{mul-le-mul}
use native.Mathlib.Omega.{arith}
use Rattle.usable.proofs.RowLaws.{line-short}
use Rattle.chain.proofs.Proposals.{unheard-more, unheard-all}
use Rattle.chain.proofs.proposal.vouches.Goals as goal

pub overflow_mul-u : goal.overflow_mul-u
overflow_mul-u c =
    let most : c.args.u * c.args.places ≤ 96 * 96 = mul-le-mul {n₂ = 96} {m₂ = 96} (omega (arith, c.requires.0, c.requires.1)) c.requires.0 in
    omega (arith, most)

pub loop-v-init : goal.loop-v-init
loop-v-init c =
    let short = line-short c.args.table.now c.args.places c.args.u c.part-line.ensures in
    (c.part-line.ensures, omega (arith, short, c.requires.0), λ e w h. absurd (omega arith))

pub bounds-line-v : goal.bounds-line-v
bounds-line-v c = omega (arith, c.loop-v-test.true)

pub bounds-lists-v : goal.bounds-lists-v
bounds-lists-v c = omega (arith, c.loop-v.invariant.1, c.loop-v-test.true)

pub loop-v-preserved : goal.loop-v-preserved
loop-v-preserved c =
    let (is, short, unheard) = c.loop-v.invariant in
    (is, short, unheard-more c.part-line.result.now c.args.lists c.loop-v.heard c.loop-v.v unheard)

pub returns : goal.returns
returns c = λ e.
    let (is, short, unheard) = c.loop-v.invariant in unheard-all _ _ _ _ c.args.lists is (omega (arith, c.loop-v-test.false)) (unheard e)
