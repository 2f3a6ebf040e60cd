-- The code makes the definition's tests in its order; one shifted by at most seven places stays below 256.
use Prim.Native.Nat.{ℕ, ◌*◌, ◌%◌, ◌^◌, ◌≤◌}
use mathlib.Core.Path.{◌≡◌, ◌∙◌}
use borrow.Author.Tests.{lt-ltb, le-ltb, eq-eqb, ne_eqb}
use native.Mathlib.Nat.{one-mul}
use native.Mathlib.Omega.{arith}
use lib.Pow.{pow_pos, shl_exact}
use Rattle.der.specs.Contents.{bit_string_good}
use Rattle.der.proofs.contents.bit_string_good.Goals as goal
use Rattle.der.proofs.contents.bit_string_good.Goals.{then-c-eq0-via-then-c-eq0, then-c-eq0-via-else-c-eq0+then-c-gt7}

shifted : (unused : ℕ) → unused ≤ 7 → 1 * 2 ^ unused % 256 ≡ 2 ^ unused
shifted unused h = shl_exact {a = 1} 1 unused 8 (omega arith) (omega arith) ∙ one-mul _

pub returns-then-c-eq0 : goal.returns-then-c-eq0
unfolding bit_string_good
returns-then-c-eq0 c =
    elim c.then-c-eq0.branch [
      | then-c-eq0-via-then-c-eq0 w ↦ simp (eq-eqb _ _ w.if-c-eq0.true)
      | then-c-eq0-via-else-c-eq0+then-c-gt7 w ↦ simp (ne_eqb _ _ w.if-c-eq0.false, lt-ltb _ _ w.if-c-gt7.true)
    ]

pub returns-then-c-eq1 : goal.returns-then-c-eq1
unfolding bit_string_good
returns-then-c-eq1 c = simp (ne_eqb _ _ c.if-c-eq0.false, le-ltb _ _ c.if-c-gt7.false, eq-eqb _ _ c.if-c-eq1.true)

pub nonzero_rem-result : goal.nonzero_rem-result
nonzero_rem-result c = rw (shifted _ c.if-c-gt7.false) (pow_pos _)

pub returns : goal.returns
unfolding bit_string_good
returns c =
    rw (shifted _ c.if-c-gt7.false)
    (simp (
      ne_eqb _ _ c.if-c-eq0.false,
      le-ltb _ _ c.if-c-gt7.false,
      ne_eqb _ _ c.if-c-eq1.false,
    ))
