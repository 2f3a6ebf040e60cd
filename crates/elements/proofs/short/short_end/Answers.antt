-- Each test leaves one way through the definition.
use mathlib.Core.Path.{sym}
use native.Mathlib.Omega.{arith}
use Rattle.elements.proofs.Shorts.{short-outside, short_none, short-other, short-long, short-beyond, short-there}
use Rattle.elements.proofs.short.short_end.Goals as goal
use Rattle.elements.proofs.short.short_end.Goals.{
  then-item-end-via-then-item-end,
  then-item-end-via-else-item-end+then-left-lt2,
  then-item-end-via-else-item-end+else-left-lt2+then-item-from,
  then-size-ge128-via-then-size-ge128,
  then-size-ge128-via-else-size-ge128+then-left-size,
}

pub returns-then-item-end : goal.returns-then-item-end
returns-then-item-end c = elim c.then-item-end.branch [
  | then-item-end-via-then-item-end w ↦ short-outside _ _ _ _ w.if-item-end.true
  | then-item-end-via-else-item-end+then-left-lt2 w ↦ short_none _ _ _ _ (omega arith) (omega arith)
  | then-item-end-via-else-item-end+else-left-lt2+then-item-from w ↦ short-other _ _ _ _ (omega arith) (omega arith) w.if-item-from.true
]

pub returns-then-size-ge128 : goal.returns-then-size-ge128
returns-then-size-ge128 c = elim c.then-size-ge128.branch [
  | then-size-ge128-via-then-size-ge128 w ↦ short-long _ _ _ _ (omega arith) (omega arith) c.if-item-from.false w.if-size-ge128.true
  | then-size-ge128-via-else-size-ge128+then-left-size w ↦
      short-beyond _ _ _ _ (omega arith) (omega arith) c.if-item-from.false w.if-size-ge128.false (omega arith)
]

pub returns : goal.returns
returns c = sym (short-there _ _ _ _ (omega arith) (omega arith) c.if-item-from.false c.if-size-ge128.false (omega arith))
