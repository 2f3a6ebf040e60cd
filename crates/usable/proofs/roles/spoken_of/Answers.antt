-- One CRL more is asked, or passed over.
use mathlib.Core.Path.{ap, ◌∙◌}
use native.Mathlib.Omega.{arith}
use Rattle.usable.specs.Rows.{spoken_below}
use Rattle.usable.proofs.RowLaws.{spoken-none, spoken-asked, spoken-passed}
use Rattle.usable.proofs.roles.spoken_of.Goals as goal
use Rattle.usable.proofs.roles.spoken_of.Goals.{then-counting-list-eq1, else-counting-list-eq1}

pub loop-list-init : goal.loop-list-init
loop-list-init c = (c.requires.0, spoken-none _ _ _ _ _ c.requires.2)

pub bounds-counting-list : goal.bounds-counting-list
bounds-counting-list c = omega (arith, c.loop-list.invariant.0, c.loop-list-test.true)

pub row_at-requires : goal.row_at-requires
row_at-requires c = omega (arith, c.loop-list.invariant.0, c.loop-list-test.true)

pub loop-list-preserved : goal.loop-list-preserved
loop-list-preserved c =
    let known = c.loop-list.invariant in
    let list = c.loop-list.list in (
      known.0,
      elim c.if-counting-list-eq1.branch [
        | then-counting-list-eq1 w ↦
            spoken-asked _ _ _ _ list w.row_at.ensures known.1 w.if-counting-list-eq1.true (w.spoken-is ∙ w.spoken_by-spoken.ensures)
        | else-counting-list-eq1 w ↦ w.spoken-is ∙ spoken-passed _ _ _ _ list known.1 w.if-counting-list-eq1.false
      ],
    )

pub returns : goal.returns
returns c = c.loop-list.invariant.1 ∙ ap (spoken_below _ _ _ _) (omega (arith, c.loop-list.auto.list-end, c.requires.1, c.loop-list-test.false))
