use Rattle.moves.proofs.Filled.{Filled}
use Rattle.moves.proofs.columns.columns_for.Given as goal

abbrev pub invariant-loop-place : goal.invariant-loop-place
invariant-loop-place l = Filled l.version l.image l.place l.kinds l.flags l.lengths l.letters
