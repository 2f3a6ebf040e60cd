-- Reading decides, and then the place.
use mathlib.Core.Path.{refl}
use borrow.Author.Tests.{lt-ltb, le-ltb}
use Rattle.std.proofs.lemmas.Result.{err_from_is_err_and}
use Rattle.image.specs.Answer.{on_place, place_of}
use Rattle.image.proofs.entry.Goals as goal

pub returns-in_err-reading : goal.returns-in_err-reading
unfolding place_of on_place
returns-in_err-reading c =
    let p = err_from_is_err_and c.from_residual.result c.from_residual.ensures.1 in
    rw (p.1, p.2, c.in_err-reading.ensures.err) refl

pub returns-then-entries-place : goal.returns-then-entries-place
unfolding place_of on_place
returns-then-entries-place c =
    let ok = c.in_ok-reading.ensures.ok in
    simp (ok.1, le-ltb _ _ (rw (c.entries.ensures.count, ok.0) at c.if-entries-place.true))

pub returns : goal.returns
unfolding place_of on_place
returns c =
    let ok = c.in_ok-reading.ensures.ok in
    simp (ok.1, lt-ltb _ _ (rw (c.entries.ensures.count, ok.0) at c.if-entries-place.false), c.entry.ensures.own, ok.0)
