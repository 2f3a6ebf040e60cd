-- The code makes the definition's tests in its order.
use mathlib.Core.Path.{sym}
use native.Mathlib.Omega.{arith}
use borrow.Author.Tests.{eq-eqb, ne_eqb}
use Rattle.times.specs.Times.{time_in, zulu, in_full}
use Rattle.times.proofs.Pairs.{pair-few}
use Rattle.times.proofs.Years.{a-year, front-wordy, back-wordy, long-read, too-early, late-enough, ten-left}
use Rattle.times.proofs.full_year.Goals as goal
use Rattle.times.proofs.full_year.Goals.{then-c-ne15-via-then-c-ne15, then-c-ne15-via-else-c-ne15+then-c-ne90}

pub returns-then-c-ne15 : goal.returns-then-c-ne15
unfolding time_in zulu
returns-then-c-ne15 c =
    elim c.then-c-ne15.branch [
      | then-c-ne15-via-then-c-ne15 w ↦ simp (ne_eqb _ _ w.if-c-ne15.true)
      | then-c-ne15-via-else-c-ne15+then-c-ne90 w ↦ simp (eq-eqb _ _ w.if-c-ne15.false, ne_eqb _ _ w.if-c-ne90.true)
    ]

pub returns-in_err-century : goal.returns-in_err-century
unfolding time_in zulu in_full
returns-in_err-century c =
    rw c.from_residual.ensures
    (simp (eq-eqb _ _ c.if-c-ne15.false, eq-eqb _ _ c.if-c-ne90.false, front-wordy c.args.c.now (omega arith) c.in_err-century.ensures))

pub returns-in_err-rest : goal.returns-in_err-rest
unfolding time_in zulu in_full
returns-in_err-rest c =
    rw c.from_residual-in_err-rest.ensures
    (simp (eq-eqb _ _ c.if-c-ne15.false, eq-eqb _ _ c.if-c-ne90.false, back-wordy c.args.c.now (omega arith) c.in_ok-century.ensures c.in_err-rest.ensures))

pub returns-then-year-lt2050 : goal.returns-then-year-lt2050
unfolding time_in zulu
returns-then-year-lt2050 c =
    simp (eq-eqb _ _ c.if-c-ne15.false, eq-eqb _ _ c.if-c-ne90.false, long-read c.args.c.now (omega arith) c.in_ok-century.ensures c.in_ok-rest.ensures)
    (sym (too-early _ (ten-left c.args.c.now 4 (omega arith)) _ c.if-year-lt2050.true))

pub returns : goal.returns
unfolding time_in zulu
returns c =
    a-year _ _ 4 _ c.if-c-ne15.false (omega (arith, pair-few c.in_ok-century.ensures, pair-few c.in_ok-rest.ensures))
    (simp (eq-eqb _ _ c.if-c-ne15.false, eq-eqb _ _ c.if-c-ne90.false, long-read c.args.c.now (omega arith) c.in_ok-century.ensures c.in_ok-rest.ensures)
    (sym (late-enough _ (ten-left c.args.c.now 4 (omega arith)) _ c.if-year-lt2050.false)))
