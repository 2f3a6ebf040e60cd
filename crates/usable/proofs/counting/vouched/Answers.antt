-- None of the anchors so far vouches.
use Prim.Native.Nat.{ℕ, ◌+◌, ◌*◌, ◌<◌, ◌≤◌}
use mathlib.Core.Path.{sym, ap₂, ◌∙◌}
use native.Mathlib.Nat.{mul-le-mul}
use native.Mathlib.Omega.{arith}
use borrow.Author.Count.{below_more}
use Rattle.usable.specs.Rows.{same_letters}
use Rattle.usable.proofs.RowLaws.{vouched-there, vouched-none, vouched-passed, vouched-unfit, vouched-foreign}
use Rattle.usable.proofs.counting.vouched.Goals as goal
use Rattle.usable.proofs.counting.vouched.Goals.{
  else-standing_at-eq1-via-then-standing_at-eq1+then-octet-eq1+else-same_letters,
  else-standing_at-eq1-via-then-standing_at-eq1+else-octet-eq1,
  else-standing_at-eq1-via-else-standing_at-eq1,
}

-- the octet of an anchor and the CRL in the table
near : (anchor places list : ℕ) → places ≤ 96 → list < places → anchor < places → anchor * places + list < 10000
near anchor places list small inside h =
    let most : anchor * places ≤ 96 * 96 = mul-le-mul {n₂ = 96} {m₂ = 96} (omega arith) small in omega (arith, most)

pub loop-anchor-init : goal.loop-anchor-init
loop-anchor-init c = (c.requires.0, c.requires.1, λ i h. absurd (omega arith))

pub standing_at-requires : goal.standing_at-requires
standing_at-requires c = omega (arith, c.loop-anchor.invariant.0, c.loop-anchor-test.true)

pub overflow_mul-anchor : goal.overflow_mul-anchor
overflow_mul-anchor c =
    omega (arith, near c.loop-anchor.anchor _ _ c.loop-anchor.invariant.0 c.loop-anchor.invariant.1 c.loop-anchor-test.true)

pub overflow_add-anchor : goal.overflow_add-anchor
overflow_add-anchor c =
    omega (arith, near c.loop-anchor.anchor _ _ c.loop-anchor.invariant.0 c.loop-anchor.invariant.1 c.loop-anchor-test.true)

pub row_at-requires : goal.row_at-requires
row_at-requires c = omega (arith, c.loop-anchor.invariant.0, c.loop-anchor-test.true)

pub row_at-requires-then-octet-eq1 : goal.row_at-requires-then-octet-eq1
row_at-requires-then-octet-eq1 c = omega (arith, c.loop-anchor.invariant.0, c.loop-anchor.invariant.1)

pub returns-then-same_letters : goal.returns-then-same_letters
returns-then-same_letters c =
    vouched-there _ _ _ _ c.loop-anchor.anchor c.loop-anchor-test.true c.standing_at.ensures c.if-standing_at-eq1.true
    c.octet.ensures c.if-octet-eq1.true
    (ap₂ same_letters (sym c.row_at.ensures) (sym c.row_at-then-octet-eq1.ensures)
    ∙ sym c.same_letters.ensures ∙ c.if-same_letters.true)

pub loop-anchor-preserved : goal.loop-anchor-preserved
loop-anchor-preserved c =
    let known = c.loop-anchor.invariant in
    let anchor = c.loop-anchor.anchor in
    let standing = c.standing_at.ensures in (
      known.0,
      known.1,
      below_more _ anchor known.2
          (elim c.else-standing_at-eq1.branch [
            | else-standing_at-eq1-via-then-standing_at-eq1+then-octet-eq1+else-same_letters w ↦
                vouched-foreign _ _ _ _ anchor standing w.if-standing_at-eq1.true w.octet.ensures w.if-octet-eq1.true
                (ap₂ same_letters (sym w.row_at.ensures) (sym w.row_at-then-octet-eq1.ensures)
                ∙ sym w.same_letters.ensures ∙ w.if-same_letters.false)
            | else-standing_at-eq1-via-then-standing_at-eq1+else-octet-eq1 w ↦
                vouched-passed _ _ _ _ anchor standing w.if-standing_at-eq1.true w.octet.ensures w.if-octet-eq1.false
            | else-standing_at-eq1-via-else-standing_at-eq1 w ↦ vouched-unfit _ _ _ _ anchor standing w.if-standing_at-eq1.false
          ]),
    )

pub returns : goal.returns
returns c = vouched-none _ _ _ _ (λ i h. c.loop-anchor.invariant.2 i (omega (arith, c.loop-anchor-test.false)))
