-- The code makes the definition's tests in its order.
use Prim.Native.Nat.{◌+◌, ◌-◌}
use mathlib.Core.Path.{◌≡◌, sym, ◌∙◌}
use native.Mathlib.Omega.{arith}
use lib.ListN.{take, drop}
use Rattle.octets.specs.Octets.{number}
use Rattle.der.proofs.LengthOctets.{long-none, long-many, long-cut, long-small, long-sized}
use Rattle.der.proofs.heading.long_length.Goals as goal
use Rattle.der.proofs.heading.long_length.Goals.{then-count-eq0-via-then-count-eq0, then-count-eq0-via-else-count-eq0+then-limits-count}
use Rattle.der.proofs.heading.long_length.Goals.{then-count-eq0-via-else-count-eq0+else-limits-count+then-s-at, After-number-size}

pub returns-then-count-eq0 : goal.returns-then-count-eq0
returns-then-count-eq0 c = λ forms e.
    elim c.then-count-eq0.branch [
      | then-count-eq0-via-then-count-eq0 w ↦ long-none forms _ _ _ _ w.if-count-eq0.true
      | then-count-eq0-via-else-count-eq0+then-limits-count w ↦ long-many forms _ _ _ _ (omega (arith, w.if-limits-count.true))
      | then-count-eq0-via-else-count-eq0+else-limits-count+then-s-at w ↦
          long-cut forms _ _ _ _ (omega (arith, w.if-count-eq0.false)) (omega (arith, w.if-limits-count.false)) w.if-s-at.true
    ]

-- the number of the length octets
told : (c : After-number-size) → let k = c.args.first - 128 in number (take k (drop c.args.at c.args.s.now)) ≡ c.number-size.result
told c =
    let span : c.args.at + (c.args.first - 128) - c.args.at ≡ c.args.first - 128 = omega arith in
    sym (rw span at c.number-size.ensures)

pub returns-then-size-least : goal.returns-then-size-least
returns-then-size-least c = λ forms e.
    long-small forms _ _ _ _ (omega arith) (omega arith) c.if-s-at.false (told (goal.at.returns-then-size-least c).After-number-size)
    (omega (arith, c.least.ensures))

pub returns : goal.returns
returns c = λ forms e.
    c.ending.ensures
    ∙ sym (long-sized forms _ _ _ _ (omega arith) (omega arith) c.if-s-at.false (told (goal.at.returns c).After-number-size)
    (omega (arith, c.least.ensures)))
