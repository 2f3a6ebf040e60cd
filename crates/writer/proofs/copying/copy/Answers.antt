-- What was copied stands at the front, and the rest is as it was.
use Prim.Native.Nat.{ℕ, ◌+◌, ◌-◌, ◌*◌, ◌/◌, ◌≤◌, ◌<◌}
use mathlib.Core.Path.{◌≡◌, refl, ap, ◌∙◌}
use mathlib.Core.List.{List}
use native.Mathlib.Numerals.{add-one}
use native.Mathlib.Omega.{arith}
use lib.ListN.{length, get_or, set}
use lib.Seq.{take-length}
use Rattle.writer.proofs.Stores.{copy-next, copy-part}
use Rattle.writer.proofs.copying.copy.Goals as goal

pub loop-block-init : goal.loop-block-init
loop-block-init c = refl

pub loop-block-preserved : goal.loop-block-preserved
loop-block-preserved c =
    let now = c.loop-block in
    let at = 128 * now.block in
    let wide = at + 128 - at in
    let end : at + wide ≡ 128 * (now.block + 1) = omega arith in
    let some : at ≤ length c.args.from.now = omega (arith, c.loop-block-test.true) in
    let written = c.copy_from_slice-in-loop-block.ensures.after ∙ c.copy_from_slice.ensures.after in
    rw end at (copy-part c.args.from.now c.args.out.now now.out _ at wide some now.invariant written)

pub loop-i-init : goal.loop-i-init
loop-i-init c =
    let all : c.loop-block.block ≡ length c.args.from.now / 128 = omega (arith, c.loop-block-test.false, c.loop-block.auto.block-end) in
    rw all at c.loop-block.invariant

pub loop-i-preserved : goal.loop-i-preserved
loop-i-preserved c =
    let from = c.args.from.now in
    let now = c.loop-i in
    let room : now.i < length c.args.out.now = omega (arith, c.requires, c.loop-i-test.true) in
    ap (λ (l : List ℕ). set l now.i (get_or from now.i 0)) now.invariant
    ∙ rw add-one (copy-next from c.args.out.now now.i c.loop-i-test.true room)

pub returns : goal.returns
returns c =
    let all : c.loop-i.i ≡ length c.args.from.now = omega (arith, c.loop-i-test.false, c.loop-i.auto.i-end) in
    rw (all, take-length) at c.loop-i.invariant
