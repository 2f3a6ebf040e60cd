-- Equal OIDs have equal numbers; where the numbers are equal the octets decide.
use mathlib.Core.Path.{sym, ap, ◌∙◌}
use mathlib.Core.List.{List}
use Prim.Native.Nat.{ℕ}
use lib.ListN.{take}
use Rattle.octets.proofs.Likeness.{unequal-unlike}
use Rattle.extensions.specs.Strange.{key_from, row_oid}
use Rattle.extensions.proofs.rows.equal_rows.Goals as goal

pub returns-then-one-other : goal.returns-then-one-other
returns-then-one-other c =
    let pre = c.requires in
    sym (unequal-unlike _ _ λ q. c.if-one-other.true (pre.0.first ∙ ap (λ (o : List ℕ). key_from 0 (take 8 o)) q ∙ sym pre.1.first))

pub returns : goal.returns
unfolding row_oid
returns c =
    c.same.ensures
    ∙ rw (
      c.part-own.ensures,
      c.between.ensures,
      c.part.ensures,
      c.between-2.ensures,
    )
