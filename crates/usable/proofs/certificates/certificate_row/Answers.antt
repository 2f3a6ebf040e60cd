-- The judge decides, then the moment.
use mathlib.Core.Path.{sym, ◌∙◌}
use borrow.Author.Tests.{le-leb, lt-leb}
use Rattle.usable.specs.Items.{within}
use Rattle.usable.specs.Rows.{blank, certificate_row}
use Rattle.usable.proofs.certificates.certificate_row.Goals as goal

pub returns-in_default : goal.returns-in_default
unfolding certificate_row blank
returns-in_default c first second = rw (sym c.judge.ensures ∙ c.in_default.is)

pub returns-then-moment-f : goal.returns-then-moment-f
unfolding certificate_row blank within
returns-then-moment-f c first second = rw (sym c.judge.ensures ∙ c.in-Ok.is, lt-leb _ _ c.if-moment-f.true)

pub returns-then-f-moment : goal.returns-then-f-moment
unfolding certificate_row blank within
returns-then-f-moment c first second =
    rw (sym c.judge.ensures ∙ c.in-Ok.is, le-leb _ _ c.if-moment-f.false, lt-leb _ _ c.if-f-moment.true)

pub returns : goal.returns
unfolding certificate_row within
returns c first second =
    rw (sym c.judge.ensures ∙ c.in-Ok.is, le-leb _ _ c.if-moment-f.false, le-leb _ _ c.if-f-moment.false)
