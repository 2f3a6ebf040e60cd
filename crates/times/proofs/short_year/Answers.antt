-- The code makes the definition's tests in its order; the two digits decide the century.
use mathlib.Core.Path.{sym}
use native.Mathlib.Omega.{arith}
use borrow.Author.Tests.{eq-eqb, ne_eqb}
use Rattle.times.specs.Times.{time_in, zulu, in_century}
use Rattle.times.proofs.Pairs.{pair-few}
use Rattle.times.proofs.Years.{a-year, short-wordy, short-read, in-two-thousands, in-nineteen-hundreds, ten-left}
use Rattle.times.proofs.short_year.Goals as goal
use Rattle.times.proofs.short_year.Goals.{then-c-ne13-via-then-c-ne13, then-c-ne13-via-else-c-ne13+then-c-ne90}

pub returns-then-c-ne13 : goal.returns-then-c-ne13
unfolding time_in zulu
returns-then-c-ne13 c =
    elim c.then-c-ne13.branch [
      | then-c-ne13-via-then-c-ne13 w ↦ simp (ne_eqb _ _ w.if-c-ne13.true)
      | then-c-ne13-via-else-c-ne13+then-c-ne90 w ↦ simp (eq-eqb _ _ w.if-c-ne13.false, ne_eqb _ _ w.if-c-ne90.true)
    ]

pub returns-in_err-year : goal.returns-in_err-year
unfolding time_in zulu in_century
returns-in_err-year c =
    rw c.from_residual.ensures
    (simp (eq-eqb _ _ c.if-c-ne13.false, eq-eqb _ _ c.if-c-ne90.false, short-wordy c.args.c.now (omega arith) c.in_err-year.ensures))

pub returns-then-year-lt50 : goal.returns-then-year-lt50
unfolding time_in zulu
returns-then-year-lt50 c =
    a-year _ _ 2 _ c.if-c-ne13.false (omega arith)
    (simp (eq-eqb _ _ c.if-c-ne13.false, eq-eqb _ _ c.if-c-ne90.false, short-read c.args.c.now (omega arith) c.in_ok-year.ensures)
    (sym (in-two-thousands _ (ten-left c.args.c.now 2 (omega arith)) _ c.if-year-lt50.true)))

pub returns-else-year-lt50 : goal.returns-else-year-lt50
unfolding time_in zulu
returns-else-year-lt50 c =
    a-year _ _ 2 _ c.if-c-ne13.false (omega (arith, pair-few c.in_ok-year.ensures))
    (simp (eq-eqb _ _ c.if-c-ne13.false, eq-eqb _ _ c.if-c-ne90.false, short-read c.args.c.now (omega arith) c.in_ok-year.ensures)
    (sym (in-nineteen-hundreds _ (ten-left c.args.c.now 2 (omega arith)) _ c.if-year-lt50.false)))
