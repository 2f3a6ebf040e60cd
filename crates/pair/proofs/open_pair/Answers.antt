-- The first image is read first, and the update behind it; then how many places there are, then the days.
use mathlib.Core.Path.{sym}
use Rattle.std.proofs.lemmas.Result.{err_from_is_err_and}
use Rattle.pair.proofs.PairLaws.{first-refused, update-refused, many-refused, earlier-refused, both_read}
use Rattle.pair.proofs.open_pair.Goals as goal

pub returns-in_err-own : goal.returns-in_err-own
returns-in_err-own c =
    let p = err_from_is_err_and c.from_residual.result c.from_residual.ensures.1 in
    rw (p.1, p.2) (sym (first-refused _ _ c.in_err-own.ensures.err))

pub returns-in_err-later : goal.returns-in_err-later
returns-in_err-later c =
    let after = c.from_residual-in_err-later in
    let p = err_from_is_err_and after.result after.ensures.1 in
    rw (p.1, p.2) (sym (update-refused _ _ c.in_ok-own.ensures.ok.1 c.in_err-later.ensures.err))

pub returns-then-places-gt96 : goal.returns-then-places-gt96
returns-then-places-gt96 c =
    let own = c.in_ok-own.ensures.ok in
    let later = c.in_ok-later.ensures.ok in
    sym (many-refused _ _ own.1 later.1 (rw (c.entries.ensures.count, c.entries-2.ensures.count, own.0, later.0) at c.if-places-gt96.true))

pub returns-then-day : goal.returns-then-day
returns-then-day c =
    let own = c.in_ok-own.ensures.ok in
    let later = c.in_ok-later.ensures.ok in
    let few = rw (c.entries.ensures.count, c.entries-2.ensures.count, own.0, later.0) at c.if-places-gt96.false in
    sym (earlier-refused _ _ own.1 later.1 few (rw (c.day-day.ensures, c.day.ensures, own.0, later.0) at c.if-day.true))

pub returns : goal.returns
returns c =
    let own = c.in_ok-own.ensures.ok in
    let later = c.in_ok-later.ensures.ok in
    let few = rw (c.entries.ensures.count, c.entries-2.ensures.count, own.0, later.0) at c.if-places-gt96.false in
    let order = rw (c.day-day.ensures, c.day.ensures, own.0, later.0) at c.if-day.false in
    rw (
      c.entries.ensures.count,
      c.entries-2.ensures.count,
      c.entries-3.ensures.count,
      c.version.ensures,
      c.version-2.ensures,
      c.day-day.ensures,
      own.0,
      later.0,
    ) (sym (both_read _ _ own.1 later.1 few order))
