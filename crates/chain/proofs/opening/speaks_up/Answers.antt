-- What was heard of the octets so far says whether one of them is 1.
use Prim.Native.Nat.{◌*◌, ◌≤◌}
use native.Mathlib.Nat.{mul-le-mul}
use native.Mathlib.Omega.{arith}
use Rattle.usable.proofs.RowLaws.{line-short}
use Rattle.chain.proofs.SpeakingUp.{heard-start, heard-more, heard_all}
use Rattle.chain.proofs.opening.speaks_up.Goals as goal

pub overflow_mul-place : goal.overflow_mul-place
overflow_mul-place c =
    let most : c.args.place * c.args.places ≤ 96 * 96 = mul-le-mul {n₂ = 96} {m₂ = 96} (omega (arith, c.requires.0, c.requires.1)) c.requires.0 in
    omega (arith, most)

pub loop-octet-init : goal.loop-octet-init
loop-octet-init c =
    let short = line-short c.args.table.now c.args.places c.args.place c.part-line.ensures in
    (c.part-line.ensures, omega (arith, short, c.requires.0), heard-start _)

pub loop-octet-preserved : goal.loop-octet-preserved
loop-octet-preserved c =
    let (is, short, heard) = c.loop-octet.invariant in (is, short, heard-more c.loop-octet.octet-index heard)

pub returns : goal.returns
returns c =
    let l = c.loop-octet in
    let (is, short, heard) = l.invariant in
    heard_all _ _ _ l.speaks is (omega (arith, l.auto.octet-index-end)) (omega (arith, c.loop-octet-test.false)) heard
