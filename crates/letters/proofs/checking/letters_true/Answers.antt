-- Opening decides, and then the items.
use Rattle.std.proofs.lemmas.Result.{err_from_is_err_and}
use Rattle.letters.specs.Check.{on_checked, checked_of}
use Rattle.letters.proofs.checking.letters_true.Goals as goal

pub returns-in_err-read_as : goal.returns-in_err-read_as
unfolding checked_of on_checked
returns-in_err-read_as c =
    let p = err_from_is_err_and c.from_residual.result c.from_residual.ensures.1 in
    rw (p.1, p.2, c.in_err-read_as.ensures.err)

pub returns : goal.returns
unfolding checked_of on_checked
returns c = rw (c.in_ok-read_as.ensures.ok.1, c.all_lettered.ensures, c.in_ok-read_as.ensures.ok.0)
