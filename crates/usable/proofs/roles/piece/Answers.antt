-- A part of the item of a row.
use Rattle.usable.specs.Rows.{piece_of}
use Rattle.usable.proofs.roles.piece.Goals as goal

pub returns : goal.returns
unfolding piece_of
returns c = rw (c.part.ensures, c.held.ensures)
