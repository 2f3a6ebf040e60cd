-- Under 12 octets the trailer is looked for at the first.
use mathlib.Core.Path.{◌≡◌, ◌∙◌}
use native.Mathlib.Omega.{arith}
use Prim.Native.Nat.{◌-◌}
use lib.ListN.{length}
use Rattle.image.specs.Index.{index_start}
use Rattle.image.proofs.index_start.Goals as goal

pub returns-then-n-lt12 : goal.returns-then-n-lt12
unfolding index_start
returns-then-n-lt12 c =
    let none : length c.args.image.now - 12 ≡ 0 = omega arith in
    (c.number.ensures.0 ∙ rw none, c.number.ensures.1)

pub returns : goal.returns
unfolding index_start
returns c = c.four.ensures
