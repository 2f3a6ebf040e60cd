-- The bytes are those that the entry of the place tells, in the image that holds them.
use mathlib.Core.Path.{sym, ◌∙◌}
use Rattle.pair.specs.Answer.{bytes_over, fetched_of}
use Rattle.pair.proofs.fetching.fetch.Goals as goal

pub returns-in_default : goal.returns-in_default
unfolding fetched_of bytes_over
returns-in_default c = simp (sym c.pair_entry.ensures ∙ c.in_default.is)

pub returns-then-later : goal.returns-then-later
unfolding fetched_of bytes_over
returns-then-later c =
    simp (sym c.pair_entry.ensures ∙ c.in-Ok.is, c.if-later.true) c.part.ensures

pub returns : goal.returns
unfolding fetched_of bytes_over
returns c =
    simp (sym c.pair_entry.ensures ∙ c.in-Ok.is, c.if-later.false) c.part-2.ensures
