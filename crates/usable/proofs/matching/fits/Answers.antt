-- Each test answers one law of the definition.
use Rattle.usable.proofs.RowLaws.{alike-parts, fits_not, fits-named}
use Rattle.usable.proofs.matching.fits.Goals as goal

pub returns-then-not-same : goal.returns-then-not-same
returns-then-not-same c =
    fits_not _ _ _ (alike-parts c.same.ensures c.piece.ensures c.piece-own.ensures)
    c.if-not-same.true

pub returns : goal.returns
returns c =
    fits-named _ _ _ (alike-parts c.same.ensures c.piece.ensures c.piece-own.ensures)
    c.if-not-same.false (alike-parts c.same-2.ensures c.piece-2.ensures c.piece-subject.ensures)
