-- All octets of the blocks before are equal; a block that differs, or the lengths, tell the strings apart, and the last block decides.
use mathlib.Core.List.{List}
use Prim.Native.Nat.{ℕ, ◌+◌, ◌-◌, ◌*◌}
use mathlib.Core.Path.{◌≡◌, refl, sym, ◌∙◌}
use native.Mathlib.Omega.{arith}
use lib.ListN.{length, take, drop}
use Rattle.octets.proofs.Likeness.{unlike-length, unlike-by, taken_more, alike-last}
use Rattle.octets.proofs.equality.same.Goals as goal

pub returns-then-n-b : goal.returns-then-n-b
returns-then-n-b c = sym (unlike-length _ _ c.if-n-b.true)

pub returns-then-same_part : goal.returns-then-same_part
returns-then-same_part c =
    let a = c.args.a.now in
    let b = c.args.b.now in
    let first : take 8 a ≡ take 8 b = taken_more a b 0 8 refl (sym c.same_part-then-n-lt16.ensures ∙ c.if-same_part.true) in
    c.same_part-then-same_part.ensures ∙ alike-last a b (length a - 8) 8 (omega arith) first

pub returns-else-same_part : goal.returns-else-same_part
returns-else-same_part c = c.if-same_part.false ∙ sym (unlike-by (take 8) _ _ (sym c.same_part-then-n-lt16.ensures ∙ c.if-same_part.false))

pub returns-then-not-same_part : goal.returns-then-not-same_part
returns-then-not-same_part c =
    let at = c.loop-block.block * 16 in
    sym (unlike-by (λ (l : List ℕ). take (at + 16 - at) (drop at l)) _ _ (sym c.same_part-in-loop-block.ensures ∙ c.if-not-same_part.true))

pub loop-block-preserved : goal.loop-block-preserved
loop-block-preserved c =
    let at = c.loop-block.block * 16 in
    let next : (c.loop-block.block + 1) * 16 ≡ at + 16 = omega arith in
    let size : at + 16 - at ≡ 16 = omega arith in
    rw next (taken_more _ _ at 16 c.loop-block.invariant (rw size at (sym c.same_part-in-loop-block.ensures ∙ c.if-not-same_part.false)))

pub returns : goal.returns
returns c =
    let a = c.args.a.now in
    c.same_part-2.ensures ∙ alike-last a c.args.b.now (length a - 16) (c.loop-block.block * 16) (omega arith) c.loop-block.invariant
