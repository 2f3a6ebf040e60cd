-- The day is asked for first, then the image, then whether it is the image's.
use mathlib.Core.Path.{refl, sym, ◌∙◌}
use borrow.Author.Tests.{eq-eqb, ne_eqb}
use Rattle.std.proofs.lemmas.Result.{err_from_is_err_and}
use Rattle.image.specs.Answer.{on_day, opened_for}
use Rattle.image.proofs.open_for.Goals as goal

pub returns-then-not-real_day : goal.returns-then-not-real_day
unfolding opened_for
returns-then-not-real_day c = simp (sym c.real_day.ensures ∙ c.if-not-real_day.true)

pub returns-in_err-opened : goal.returns-in_err-opened
unfolding opened_for on_day
returns-in_err-opened c =
    let p = err_from_is_err_and c.from_residual.result c.from_residual.ensures.1 in
    rw (p.1, p.2, ← c.real_day.ensures, c.if-not-real_day.false, ← c.«open».ensures, c.in_err-opened.was) refl

pub returns-then-opened-wanted : goal.returns-then-opened-wanted
unfolding opened_for on_day
returns-then-opened-wanted c =
    simp (sym c.real_day.ensures ∙ c.if-not-real_day.false, sym c.«open».ensures ∙ c.in_ok-opened.was, ne_eqb _ _ c.if-opened-wanted.true)

pub returns : goal.returns
unfolding opened_for on_day
returns c =
    simp (sym c.real_day.ensures ∙ c.if-not-real_day.false, sym c.«open».ensures ∙ c.in_ok-opened.was, eq-eqb _ _ c.if-opened-wanted.false)
