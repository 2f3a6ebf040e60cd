-- The code makes the definition's tests in its order.
use Prim.Native.Nat.{◌≤◌}
use mathlib.Core.Path.{sym, ◌∙◌}
use native.Mathlib.Omega.{arith}
use borrow.Author.Tests.{le-leb}
use lib.ListN.{length}
use Rattle.der.specs.Heading.{sized, wide_heading}
use Rattle.der.proofs.Laws.{turned, turned_back}
use Rattle.der.proofs.heading.wide_tagged.Goals as goal
use Rattle.der.proofs.heading.wide_tagged.Goals.{then-not-limits-via-then-not-limits, then-not-limits-via-else-not-limits+then-not-wide_good}
use Rattle.der.proofs.heading.wide_tagged.Goals.{then-not-limits-via-else-not-limits+else-not-wide_good+then-s-lt3}

pub returns-then-not-limits : goal.returns-then-not-limits
unfolding wide_heading sized
returns-then-not-limits c = λ forms e t.
    elim c.then-not-limits.branch [
      | then-not-limits-via-then-not-limits w ↦ simp (t ∙ turned _ w.if-not-limits.true)
      | then-not-limits-via-else-not-limits+then-not-wide_good w ↦
          simp (t ∙ turned_back _ w.if-not-limits.false, sym w.wide_good.ensures ∙ w.if-not-wide_good.true)
      | then-not-limits-via-else-not-limits+else-not-wide_good+then-s-lt3 w ↦
          let short : length c.args.s.now ≤ 2 = omega (arith, w.if-s-lt3.true) in
          simp (t ∙ turned_back _ w.if-not-limits.false, sym w.wide_good.ensures ∙ w.if-not-wide_good.false, le-leb _ _ short)
    ]

pub returns : goal.returns
unfolding wide_heading
returns c = λ forms e t.
    simp (t ∙ turned_back _ c.if-not-limits.false, sym c.wide_good.ensures ∙ c.if-not-wide_good.false) (c.length_at.ensures forms e)
