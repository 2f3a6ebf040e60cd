-- The definition asks the same tests in the same order.
use mathlib.Core.Path.{◌≡◌, sym, ◌∙◌}
use mathlib.Core.Bool.{true}
use native.Mathlib.Omega.{arith}
use borrow.Author.Tests.{eq-eqb, ne_eqb}
use Rattle.calendar.specs.Days.{real_day}
use Rattle.writer.specs.Writing.{version_good, counts_good, rows_good, arguments_good}
use Rattle.writer.proofs.Columns.{counts-tell}
use Rattle.writer.proofs.arguments_good.Goals as goal
use Rattle.writer.proofs.arguments_good.Goals.{Else-not-counts_good, Else-not-real_day, Else-not-rows_good, Else-not-version_good}

known : (c : Else-not-version_good) → version_good c.args.version ≡ true
known c = sym c.version_good.ensures ∙ c.if-not-version_good.false

real : (c : Else-not-real_day) → real_day 1950 2099 c.args.day ≡ true
real c = sym c.real_day.ensures ∙ c.if-not-real_day.false

counts : (c : Else-not-counts_good) →
    let a = c.args in
    counts_good a.kinds.now a.flags.now a.lengths.now a.letters.now ≡ true
counts c = sym c.counts_good.ensures ∙ c.if-not-counts_good.false

rows : (c : Else-not-rows_good) →
    let a = c.args in
    rows_good a.kinds.now a.flags.now a.lengths.now ≡ true
rows c = sym c.rows_good.ensures ∙ c.if-not-rows_good.false

pub returns-then-not-version_good : goal.returns-then-not-version_good
unfolding arguments_good
returns-then-not-version_good c = simp (sym c.version_good.ensures ∙ c.if-not-version_good.true)

pub returns-then-not-real_day : goal.returns-then-not-real_day
unfolding arguments_good
returns-then-not-real_day c = simp (known (goal.at.returns-then-not-real_day c).Else-not-version_good, sym c.real_day.ensures ∙ c.if-not-real_day.true)

pub returns-then-not-counts_good : goal.returns-then-not-counts_good
unfolding arguments_good
returns-then-not-counts_good c =
    simp (known (goal.at.returns-then-not-counts_good c).Else-not-version_good, real (goal.at.returns-then-not-counts_good c).Else-not-real_day, sym c.counts_good.ensures ∙ c.if-not-counts_good.true)

pub rows_good-requires : goal.rows_good-requires
rows_good-requires c =
    let a = c.args in
    let t = counts-tell a.kinds.now a.flags.now a.lengths.now a.letters.now (counts (goal.at.rows_good-requires c).Else-not-counts_good) in
    (t.flagged, t.long)

pub returns-then-not-rows_good : goal.returns-then-not-rows_good
unfolding arguments_good
returns-then-not-rows_good c =
    simp (known (goal.at.returns-then-not-rows_good c).Else-not-version_good, real (goal.at.returns-then-not-rows_good c).Else-not-real_day, counts (goal.at.returns-then-not-rows_good c).Else-not-counts_good, sym c.rows_good.ensures ∙ c.if-not-rows_good.true)

pub sum_all-requires : goal.sum_all-requires
sum_all-requires c =
    let a = c.args in
    let t = counts-tell a.kinds.now a.flags.now a.lengths.now a.letters.now (counts (goal.at.sum_all-requires c).Else-not-counts_good) in
    omega (arith, t.few, t.long)

pub returns-then-sum_all-packed : goal.returns-then-sum_all-packed
unfolding arguments_good
returns-then-sum_all-packed c =
    simp (known (goal.at.returns-then-sum_all-packed c).Else-not-version_good, real (goal.at.returns-then-sum_all-packed c).Else-not-real_day, counts (goal.at.returns-then-sum_all-packed c).Else-not-counts_good, rows (goal.at.returns-then-sum_all-packed c).Else-not-rows_good, ne_eqb _ _ (λ g. c.if-sum_all-packed.true (c.sum_all.ensures ∙ g)))

pub returns : goal.returns
unfolding arguments_good
returns c =
    simp (
      known (goal.at.returns c).Else-not-version_good,
      real (goal.at.returns c).Else-not-real_day,
      counts (goal.at.returns c).Else-not-counts_good,
      rows (goal.at.returns c).Else-not-rows_good,
      eq-eqb _ _ (sym c.sum_all.ensures ∙ c.if-sum_all-packed.false),
      c.letters_good.ensures,
    )
